-- `reason_check::edge_right` meets its contract: one end after the other. Assumes nothing.
use Rattle.reasons.specs.Parting.{edge_right}
use Rattle.reason_check.proofs.edge_right.Goals as goal

pub returns-then-right_on : goal.returns-then-right_on
unfolding edge_right
returns-then-right_on c = rw (← c.right_on.ensures, c.if-right_on.true, c.right_on-then-right_on.ensures)

pub returns-else-right_on : goal.returns-else-right_on
unfolding edge_right
returns-else-right_on c = rw (← c.right_on.ensures, c.if-right_on.false)
