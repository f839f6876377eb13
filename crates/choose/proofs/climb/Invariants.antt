use Prim.Native.Nat.{◌-◌}
use Rattle.ring.specs.Ring.{count}
use Rattle.pairs.specs.Pairs.{pair_count}
use Rattle.vectors.specs.Fit.{keeps}
use Rattle.choose.specs.Choose.{standing}
use Rattle.choose.proofs.Climbing.{Climbing}
use Rattle.choose.proofs.climb.Given as goal

abbrev pub invariant-loop-j : goal.invariant-loop-j
invariant-loop-j l = Climbing l.stationary l.orbiting l.tol (keeps l.from l.visited l.tol) l.previous l.ccw (standing l.best) l.k

abbrev pub decreases-loop-j : goal.decreases-loop-j
decreases-loop-j l = pair_count (count l.stationary) (count l.orbiting) - l.k
