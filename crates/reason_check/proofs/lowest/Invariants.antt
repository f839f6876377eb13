use mathlib.Core.Path.{◌≡◌}
use Rattle.shifted.specs.Shifted.{spot_at}
use Rattle.reasons.specs.Lowest.{lowest}
use Rattle.reason_check.proofs.lowest.Given as goal

abbrev pub invariant-loop-i : goal.invariant-loop-i
invariant-loop-i l = l.low ≡ lowest (spot_at l.a) (spot_at l.b) l.i
