-- `clear_path::first_leg` meets its contract. The invariant: the legs from i on decide. Assumes nothing.
use mathlib.Core.Path.{sym, ap, ◌∙◌}
use Rattle.reason_check.specs.Told.{ground}
use Rattle.clear_path.proofs.Legs.{all_left, leg_on, leg_edge, leg_enclosed, leg_end}
use Rattle.clear_path.proofs.first_leg.Goals as goal

pub loop-i-init : goal.loop-i-init
loop-i-init c = all_left _ _

pub loop-i-preserved : goal.loop-i-preserved
loop-i-preserved c =
    let told = ap ground c.in-Clear.is in
    c.loop-i.invariant ∙ leg_on _ _ _ c.loop-i-test.true c.search_leg.ensures told

pub returns-in-Edge : goal.returns-in-Edge
returns-in-Edge c =
    let told = ap ground c.in-Edge.is in
    sym (c.loop-i.invariant ∙ leg_edge _ _ _ c.loop-i-test.true c.search_leg.ensures told)

pub returns-in-Enclosed : goal.returns-in-Enclosed
returns-in-Enclosed c =
    let told = ap ground c.in-Enclosed.is in
    sym (c.loop-i.invariant ∙ leg_enclosed _ _ _ c.loop-i-test.true c.search_leg.ensures told)

pub returns : goal.returns
returns c = sym (c.loop-i.invariant ∙ leg_end _ _ _ c.loop-i-test.false)
