use mathlib.Core.Path.{◌≡◌}
use Rattle.winding.specs.Winding.{area_sum}
use Rattle.winding.proofs.signed_area.Given as goal

abbrev pub invariant-loop-i : goal.invariant-loop-i
invariant-loop-i l = l.area ≡ area_sum l.polygon l.i
