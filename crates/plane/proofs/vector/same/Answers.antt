-- `plane::vector::same` meets its contract: one coordinate after the other. Assumes nothing.
use Rattle.plane.specs.Vector.{same_of}
use Rattle.plane.proofs.vector.same.Goals as goal

pub returns-then-a-b : goal.returns-then-a-b
unfolding same_of
returns-then-a-b c = rw c.if-a-b.true

pub returns-else-a-b : goal.returns-else-a-b
unfolding same_of
returns-else-a-b c = rw c.if-a-b.false
