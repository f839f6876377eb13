-- `plane::vector::distance` meets its contract: the length of the difference. Assumes nothing.
use Rattle.plane.specs.Vector.{distance_of}
use Rattle.plane.proofs.vector.distance.Goals as goal

pub returns : goal.returns
unfolding distance_of
returns c = cc
