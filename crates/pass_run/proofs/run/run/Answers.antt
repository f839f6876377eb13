-- `pass_run::run::run` meets its contract. The invariant: the run from the first state is the run of the passes left from where it is; the stored points
-- lie in the room, and both rooms are as long as they came. Assumes nothing.
use native.Mathlib.Omega.{arith}
use mathlib.Core.Path.{◌≡◌, refl, sym, ap, ◌∙◌}
use native.Mathlib.Nat.{sub-zero}
use Rattle.pass_run.proofs.Onward.{run_go, run_stop, run_full, run_out}
use Rattle.pass_run.proofs.Standstill.{run_stays}
use Rattle.pass_run.specs.Run.{Done}
use Rattle.pass_run.proofs.run.run.Goals as goal

pub loop-passes-init : goal.loop-passes-init
loop-passes-init c = (refl, c.requires.stored_in_bounds, rw sub-zero refl, refl)

pub one_pass-requires : goal.one_pass-requires
one_pass-requires c = record { orbiting_len = c.requires.orbiting_len; orbiting_len_bound = (c.requires.orbiting_len_bound.0, omega (arith, c.requires.orbiting_len_bound.1, c.loop-passes.invariant.3)); sides = c.requires.sides; directed = c.requires.directed; stored_in_bounds = c.loop-passes.invariant.1 }

pub shape_of-room-in-Halt : goal.shape_of-room-in-Halt
shape_of-room-in-Halt c = omega (arith, c.one_pass.auto.room)

pub shape_of-moved-in-Halt : goal.shape_of-moved-in-Halt
shape_of-moved-in-Halt c =
    omega (arith, c.loop-passes.invariant.3, c.one_pass.auto.moved)

pub returns-in-Halt : goal.returns-in-Halt
returns-in-Halt c =
    let h =
    c.loop-passes.invariant.2
    ∙ run_stop _ _ _ _ _ _ _ c.loop-passes-test.true c.one_pass.ensures.0 c.one_pass.ensures.1 _ c.in-Halt.is in
    record { value = sym (ap (λ (d : Done). d.end) h); room_after = sym (ap (λ (d : Done). d.room) h) }

pub shape_of-room-in-Full : goal.shape_of-room-in-Full
shape_of-room-in-Full c = omega (arith, c.one_pass.auto.room)

pub shape_of-moved-in-Full : goal.shape_of-moved-in-Full
shape_of-moved-in-Full c =
    omega (arith, c.loop-passes.invariant.3, c.one_pass.auto.moved)

pub returns-in-Full : goal.returns-in-Full
returns-in-Full c =
    let h =
    c.loop-passes.invariant.2
    ∙ run_full _ _ _ _ _ _ _ c.loop-passes-test.true c.one_pass.ensures.0 c.one_pass.ensures.1 c.in-Full.is in
    record { value = sym (ap (λ (d : Done). d.end) h); room_after = sym (ap (λ (d : Done). d.room) h) }

pub shape_of-room-then-is_still : goal.shape_of-room-then-is_still
shape_of-room-then-is_still c = omega (arith, c.one_pass.auto.room)

pub shape_of-moved-then-is_still : goal.shape_of-moved-then-is_still
shape_of-moved-then-is_still c =
    omega (arith, c.loop-passes.invariant.3, c.one_pass.auto.moved)

pub returns-then-is_still : goal.returns-then-is_still
returns-then-is_still c =
    let h =
    c.loop-passes.invariant.2
    ∙ run_stays _ _ _ _ _ _ _ _ (omega (arith, c.loop-passes-test.true)) c.one_pass.ensures.0 c.one_pass.ensures.1 c.in-Go.is (c.is_still.ensures c.if-is_still.true) in
    record { value = sym (ap (λ (d : Done). d.end) h); room_after = sym (ap (λ (d : Done). d.room) h) }

pub loop-passes-preserved : goal.loop-passes-preserved
loop-passes-preserved c =
    let q = c.in-Go.is in (
      omega (arith, c.one_pass.auto.room),
      omega (arith, rw q at c.one_pass.ensures.2, c.one_pass.auto.room),
      c.loop-passes.invariant.2 ∙ run_go _ _ _ _ _ _ _ c.loop-passes-test.true c.one_pass.ensures.0 c.one_pass.ensures.1 _ q,
      omega (arith, c.loop-passes.invariant.3, c.one_pass.auto.moved),
    )

pub returns : goal.returns
returns c =
    let h = c.loop-passes.invariant.2 ∙ run_out _ _ _ _ _ c.loop-passes-test.false in
    let e : c.loop-passes.passes ≡ c.args.limit = omega (arith, c.loop-passes.auto.passes-end, c.loop-passes-test.false) in
    record { value = rw e at (sym (ap (λ (d : Done). d.end) h)); room_after = sym (ap (λ (d : Done). d.room) h) }
