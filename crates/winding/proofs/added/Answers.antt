-- `winding::added` meets its contract: the operations are those of the definition. Assumes nothing.
use mathlib.Core.Path.{refl}
use Rattle.winding.specs.Winding.{area_added}
use Rattle.winding.proofs.added.Goals as goal

pub returns : goal.returns
unfolding area_added
returns c = refl
