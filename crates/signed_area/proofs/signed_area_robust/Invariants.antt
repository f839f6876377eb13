use mathlib.Core.Path.{◌≡◌}
use Rattle.signed_area.specs.Area.{kahan_to}
use Rattle.signed_area.proofs.signed_area_robust.Given as goal

abbrev pub invariant-loop-i : goal.invariant-loop-i
invariant-loop-i l = l.k ≡ kahan_to l.ring l.i
