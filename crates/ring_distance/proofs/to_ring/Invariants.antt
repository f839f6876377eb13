use Prim.Native.Nat.{◌-◌}
use mathlib.Core.Path.{◌≡◌}
use Rattle.ring.specs.Ring.{point_at}
use Rattle.ring_distance.specs.Squared.{Carries}
use Rattle.ring_distance.proofs.to_ring.Given as goal

abbrev pub invariant-loop-i : goal.invariant-loop-i
invariant-loop-i l = (l.a ≡ point_at l.ring (l.i - 1)) × Carries l.p l.ring 0 (l.i - 1) l.before l.least
