-- `plane::vector::ahead` meets its contract: the operations are those of the definition. Assumes nothing.
use mathlib.Core.Path.{refl}
use Rattle.plane.specs.Vector.{ahead_of}
use Rattle.plane.proofs.vector.ahead.Goals as goal

pub returns : goal.returns
unfolding ahead_of
returns c = refl
