-- `collision::within_segment` meets its contract: one comparison after the other. Assumes nothing.
use Rattle.collision.proofs.within_segment.Goals as goal

pub returns-then-u-tolerance : goal.returns-then-u-tolerance
returns-then-u-tolerance c = rw c.if-u-tolerance.true

pub returns-else-u-tolerance : goal.returns-else-u-tolerance
returns-else-u-tolerance c = rw c.if-u-tolerance.false
