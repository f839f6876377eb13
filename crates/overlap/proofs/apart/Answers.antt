-- `overlap::apart` meets its contract: one test after the other. Assumes nothing.
use Rattle.overlap.specs.Extent.{apart_of}
use Rattle.overlap.proofs.apart.Goals as goal

pub returns-then-a-tolerance : goal.returns-then-a-tolerance
unfolding apart_of
returns-then-a-tolerance c = rw c.if-a-tolerance.true

pub returns-else-a-tolerance : goal.returns-else-a-tolerance
unfolding apart_of
returns-else-a-tolerance c = rw c.if-a-tolerance.false
