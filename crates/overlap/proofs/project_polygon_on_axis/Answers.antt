-- `overlap::project_polygon_on_axis` meets its contract. The invariant: the extent is that of the first i vertices. Assumes nothing.
use native.Mathlib.Omega.{arith}
use mathlib.Core.Path.{ap, ◌∙◌}
use Rattle.overlap.specs.Extent.{extent_to, shadow_of}
use Rattle.overlap.proofs.Fold.{none_yet, dot_more}
use Rattle.overlap.proofs.project_polygon_on_axis.Goals as goal

pub loop-i-init : goal.loop-i-init
loop-i-init c = none_yet _

pub loop-i-preserved : goal.loop-i-preserved
loop-i-preserved c =
    dot_more _ _ c.point_at.ensures _ c.loop-i.invariant c.dot.ensures c.wider-e.ensures

pub returns : goal.returns
unfolding shadow_of
returns c = c.loop-i.invariant ∙ ap (extent_to _) (omega arith)
