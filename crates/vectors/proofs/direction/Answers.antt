-- `vectors::direction` meets its contract: the unit vector of the difference. Assumes nothing.
use Rattle.vectors.specs.Vectors.{direction_of}
use Rattle.vectors.proofs.direction.Goals as goal

pub returns : goal.returns
unfolding direction_of
returns c = rw (c.normalize.ensures, c.minus.ensures)
