use Rattle.std.proofs.Common.{◌≡◌}
use Rattle.centroid.specs.Centroid.{moments_to}
use Rattle.centroid.proofs.gathered.Given as goal

abbrev pub invariant-loop-i : goal.invariant-loop-i
invariant-loop-i l = l.m ≡ moments_to l.ring l.i
