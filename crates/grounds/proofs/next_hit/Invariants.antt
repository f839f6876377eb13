use Prim.Native.Nat.{◌-◌, ◌≤◌}
use Rattle.collision.specs.Chained.{MissesTo}
use Rattle.grounds.proofs.next_hit.Given as goal

abbrev pub invariant-loop-e : goal.invariant-loop-e
invariant-loop-e l = (l.from ≤ l.e) × (l.e ≤ l.n) × MissesTo l.edges l.sweep.dir l.sweep.tolerance l.origin l.from l.e

abbrev pub decreases-loop-e : goal.decreases-loop-e
decreases-loop-e l = l.n - l.e
