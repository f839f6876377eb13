-- `vectors::opposite` meets its contract: the operations are those of the definition. Assumes nothing.
use mathlib.Core.Path.{refl}
use Rattle.vectors.specs.Vectors.{opposite_of}
use Rattle.vectors.proofs.opposite.Goals as goal

pub returns : goal.returns
unfolding opposite_of
returns c = refl
