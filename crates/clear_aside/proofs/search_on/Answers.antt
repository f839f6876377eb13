-- `clear_aside::search_on` meets its contract. The invariant: the hows from `how` on decide; the room is as long. Assumes nothing.
use Prim.Native.Nat.{◌<◌}
use mathlib.Core.Path.{refl, sym, ap, ◌∙◌}
use native.Mathlib.Omega.{arith}
use Rattle.reason_check.specs.Told.{ground}
use Rattle.clear_aside.proofs.Hows.{how_on, how_clear, how_enclosed, how_end, kept_clear, kept_edge, kept_enclosed}
use Rattle.clear_aside.proofs.search_on.Goals as goal
use Rattle.clear_aside.proofs.search_on.Goals.{In-loop-how}
use Rattle.clear_aside.proofs.search_on.Lts.View.{up-In-loop-how}

before_last : (c : In-loop-how) → c.loop-how.how < 21
before_last c = omega (arith, c.loop-how-test.true)

pub loop-how-init : goal.loop-how-init
loop-how-init c = (refl, refl)

pub returns-in-Clear : goal.returns-in-Clear
returns-in-Clear c =
    let g = c.args in
    let told = ap ground c.in-Clear.is in
    record { result_value = sym (c.loop-how.invariant.0 ∙ how_clear _ _ _ _ (before_last (up-In-loop-how _ _ _ _ _ _ c.before.before.before.before.before.before)) c.search_by.ensures.result_value told); kept = kept_clear g.st.now g.a.now g.b.now g.from g.to _ _ (c.search_by.ensures.lines_held.0 told) }

pub loop-how-preserved : goal.loop-how-preserved
loop-how-preserved c =
    let told = ap ground c.in-Edge.is in (
      c.loop-how.invariant.0 ∙ how_on _ _ _ _ (before_last (up-In-loop-how _ _ _ _ _ _ c.before.before.before.before.before.before)) c.search_by.ensures.result_value told,
      c.search_by.ensures.lines_held.1 ∙ c.loop-how.invariant.1,
    )

pub returns-in-Enclosed : goal.returns-in-Enclosed
returns-in-Enclosed c =
    let g = c.args in
    let told = ap ground c.in-Enclosed.is in record { result_value = sym (c.loop-how.invariant.0 ∙ how_enclosed _ _ _ _ (before_last (up-In-loop-how _ _ _ _ _ _ c.before.before.before.before.before.before)) c.search_by.ensures.result_value told); kept = kept_enclosed g.st.now g.a.now g.b.now g.from g.to _ _ }

pub returns : goal.returns
returns c =
    let g = c.args in record { result_value = sym (c.loop-how.invariant.0 ∙ how_end _ _ _ _ (omega (arith, c.loop-how-test.false))); kept = kept_edge g.st.now g.a.now g.b.now g.from g.to _ _ }
