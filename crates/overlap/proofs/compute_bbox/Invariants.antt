use mathlib.Core.Path.{◌≡◌}
use Rattle.overlap.specs.Extent.{extent_to, x_at, y_at}
use Rattle.overlap.proofs.compute_bbox.Given as goal

abbrev pub invariant-loop-i : goal.invariant-loop-i
invariant-loop-i l = (l.x ≡ extent_to (x_at l.polygon) l.i) × (l.y ≡ extent_to (y_at l.polygon) l.i)
