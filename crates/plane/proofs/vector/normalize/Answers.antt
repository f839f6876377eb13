-- `plane::vector::normalize` meets its contract: the two cases of the test. Assumes nothing.
use Rattle.plane.specs.Vector.{normalize_of}
use Rattle.plane.proofs.vector.normalize.Goals as goal

pub returns-then-len : goal.returns-then-len
unfolding normalize_of
returns-then-len c = rw (← c.length-len.ensures, c.if-len.true)

pub returns-else-len : goal.returns-else-len
unfolding normalize_of
returns-else-len c = rw (← c.length-len.ensures, c.if-len.false)
