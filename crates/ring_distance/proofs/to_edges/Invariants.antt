use Prim.Native.Nat.{◌<◌}
use mathlib.Core.Path.{◌≡◌}
use Rattle.ring.specs.Ring.{point_at}
use Rattle.ring_distance.specs.Squared.{Carries}
use Rattle.ring_distance.proofs.to_edges.Given as goal

abbrev pub invariant-loop-e : goal.invariant-loop-e
invariant-loop-e l = Carries l.p l.ring l.from l.e l.before l.least × (l.e < l.to → l.a ≡ point_at l.ring l.e)
