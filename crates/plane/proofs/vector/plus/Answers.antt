-- `plane::vector::plus` meets its contract: the operations are those of the definition. Assumes nothing.
use Rattle.plane.specs.Vector.{plus_of}
use Rattle.plane.proofs.vector.plus.Goals as goal

pub returns : goal.returns
unfolding plus_of
returns c = cc
