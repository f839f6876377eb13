-- `shifted::spot_of` meets its contract: one coordinate and then the other. Assumes nothing.
use mathlib.Core.Path.{ap, ◌∙◌}
use mir.Syntax.{w32}
use mir.ValLaws.{to_z-of_z}
use Rattle.shifted.specs.Shifted.{up_of}
use Rattle.shifted.proofs.Laws.{spot_is}
use Rattle.shifted.proofs.spot_of.Goals as goal

pub returns : goal.returns
returns c =
    spot_is _ _ (c.up.ensures ∙ ap up_of (to_z-of_z w32 _ c.ranges.x)) (c.up-2.ensures ∙ ap up_of (to_z-of_z w32 _ c.ranges.y))
