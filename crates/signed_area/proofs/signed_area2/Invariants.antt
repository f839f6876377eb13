use mathlib.Core.Path.{◌≡◌}
use Rattle.signed_area.specs.Area.{sum_to}
use Rattle.signed_area.proofs.signed_area2.Given as goal

abbrev pub invariant-loop-i : goal.invariant-loop-i
invariant-loop-i l = l.sum ≡ sum_to l.ring l.i
