-- `reason_check::parts` meets its contract: one test after the other. Assumes nothing.
use Rattle.reason_check.proofs.Corners.{one_point, edge_off, way_decides}
use Rattle.reason_check.proofs.parts.Goals as goal

pub returns-then-not-differ : goal.returns-then-not-differ
returns-then-not-differ c = one_point _ _ _ _ _ _ _ c.differ.ensures c.if-not-differ.true

pub returns-then-not-edge_right : goal.returns-then-not-edge_right
returns-then-not-edge_right c =
    edge_off _ _ _ _ _ _ _ c.differ.ensures c.if-not-differ.false c.edge_right.ensures
    c.if-not-edge_right.true

pub returns : goal.returns
returns c =
    way_decides _ _ _ _ _ _ _ c.differ.ensures c.if-not-differ.false c.edge_right.ensures
    c.if-not-edge_right.false c.way_left.ensures
