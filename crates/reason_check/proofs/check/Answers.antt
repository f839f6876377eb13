-- `reason_check::check` meets its contract. The invariant: the edges from j on decide. Assumes nothing.
use Rattle.reason_check.proofs.Edges.{start, turn, stop, all_clear, all_enclosed}
use Rattle.reason_check.proofs.check.Goals as goal

pub loop-j-init : goal.loop-j-init
loop-j-init c = start _ _ _ _

pub loop-j-preserved : goal.loop-j-preserved
loop-j-preserved c =
    turn _ _ _ _ c.loop-j.invariant c.loop-j-test.true c.parts_edge.ensures c.if-not-parts_edge.false

pub returns-then-not-parts_edge : goal.returns-then-not-parts_edge
returns-then-not-parts_edge c =
    stop _ _ _ _ c.loop-j.invariant c.loop-j-test.true c.parts_edge.ensures c.if-not-parts_edge.true

pub returns-then-balanced : goal.returns-then-balanced
returns-then-balanced c =
    all_clear _ _ _ _ c.loop-j.invariant c.loop-j-test.false c.lowest.ensures
    c.balanced.ensures c.if-balanced.true

pub returns-else-balanced : goal.returns-else-balanced
returns-else-balanced c =
    all_enclosed _ _ _ _ c.loop-j.invariant c.loop-j-test.false c.lowest.ensures
    c.balanced.ensures c.if-balanced.false
