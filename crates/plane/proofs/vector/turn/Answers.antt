-- `plane::vector::turn` meets its contract: the cross product of the two differences. Assumes nothing.
use Rattle.plane.specs.Vector.{turn_of}
use Rattle.plane.proofs.vector.turn.Goals as goal

pub returns : goal.returns
unfolding turn_of
returns c = cc
