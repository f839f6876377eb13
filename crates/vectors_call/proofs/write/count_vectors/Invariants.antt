use Prim.Native.Nat.{◌*◌, ◌-◌}
use Rattle.ring.specs.Ring.{count}
use Rattle.pairs.specs.Pairs.{pair_count}
use Rattle.vectors.specs.Fit.{keeps}
use Rattle.vectors.specs.Places.{far}
use Rattle.vectors_call.proofs.Passing.{Counting}
use Rattle.vectors_call.proofs.write.count_vectors.Given as goal

abbrev pub invariant-loop-step : goal.invariant-loop-step
invariant-loop-step l = Counting l.stationary l.orbiting l.tol (keeps l.from l.visited l.tol) l.n l.at

abbrev pub decreases-loop-step : goal.decreases-loop-step
decreases-loop-step l = 2 * pair_count (count l.stationary) (count l.orbiting) - far l.at
