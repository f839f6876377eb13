use Rattle.std.proofs.Common.{◌≡◌}
use Rattle.centroid.specs.Centroid.{total_to}
use Rattle.centroid.proofs.total.Given as goal

abbrev pub invariant-loop-i : goal.invariant-loop-i
invariant-loop-i l = l.sum ≡ total_to l.ring l.i
