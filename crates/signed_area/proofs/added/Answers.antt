-- `signed_area::added` meets its contract: the operations are those of the definition. Assumes nothing.
use mathlib.Core.Path.{refl}
use Rattle.signed_area.specs.Area.{added_of}
use Rattle.signed_area.proofs.added.Goals as goal

pub returns : goal.returns
unfolding added_of
returns c = refl
