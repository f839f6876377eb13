-- `plane::vector::dot` meets its contract: the operations are those of the definition. Assumes nothing.
use Rattle.plane.specs.Vector.{dot_of}
use Rattle.plane.proofs.vector.dot.Goals as goal

pub returns : goal.returns
unfolding dot_of
returns c = cc
