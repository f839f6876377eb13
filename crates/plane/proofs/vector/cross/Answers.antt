-- `plane::vector::cross` meets its contract: the operations are those of the definition. Assumes nothing.
use Rattle.plane.specs.Vector.{cross_of}
use Rattle.plane.proofs.vector.cross.Goals as goal

pub returns : goal.returns
unfolding cross_of
returns c = cc
