-- `plane::vector::minus` meets its contract: the operations are those of the definition. Assumes nothing.
use Rattle.plane.specs.Vector.{minus_of}
use Rattle.plane.proofs.vector.minus.Goals as goal

pub returns : goal.returns
unfolding minus_of
returns c = cc
