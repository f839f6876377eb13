-- `plane::vector::length` meets its contract: the root of the dot product with itself. Assumes nothing.
use Rattle.plane.specs.Vector.{length_of}
use Rattle.plane.proofs.vector.length.Goals as goal

pub returns : goal.returns
unfolding length_of
returns c = cc
