-- `collision::in_front` meets its contract: the two cases of the test. Assumes nothing.
use Rattle.collision.proofs.in_front.Goals as goal

pub returns-then-t-tolerance : goal.returns-then-t-tolerance
returns-then-t-tolerance c = rw (c.if-t-tolerance.true, c.larger.ensures)

pub returns-else-t-tolerance : goal.returns-else-t-tolerance
returns-else-t-tolerance c = rw c.if-t-tolerance.false
