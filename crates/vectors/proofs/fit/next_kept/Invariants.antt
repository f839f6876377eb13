use Prim.Native.Nat.{◌*◌, ◌-◌}
use Rattle.ring.specs.Ring.{count}
use Rattle.pairs.specs.Pairs.{pair_count}
use Rattle.vectors.specs.Fit.{keeps}
use Rattle.vectors.specs.Places.{far}
use Rattle.vectors.proofs.Steps.{Seeking}
use Rattle.vectors.proofs.fit.next_kept.Given as goal

abbrev pub invariant-loop-step : goal.invariant-loop-step
invariant-loop-step l = Seeking l.stationary l.orbiting l.tol (keeps l.from l.visited l.tol) l.initial.at l.at

abbrev pub decreases-loop-step : goal.decreases-loop-step
decreases-loop-step l = 2 * pair_count (count l.stationary) (count l.orbiting) - far l.at
