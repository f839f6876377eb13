-- `selection::vector_at` meets its contract: the three reads are within the list. Assumes nothing.
use mathlib.Core.Path.{refl}
use Rattle.selection.specs.Select.{vector_at}
use Rattle.selection.proofs.vector_at.Goals as goal

pub returns : goal.returns
unfolding vector_at
returns c = refl
