use mathlib.Core.Path.{◌≡◌}
use Rattle.overlap.specs.Extent.{extent_to, dot_at}
use Rattle.overlap.proofs.project_polygon_on_axis.Given as goal

abbrev pub invariant-loop-i : goal.invariant-loop-i
invariant-loop-i l = l.e ≡ extent_to (dot_at l.polygon l.axis) l.i
