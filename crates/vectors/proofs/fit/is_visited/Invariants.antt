use Prim.Native.Nat.{◌-◌}
use mathlib.Core.Path.{◌≡◌}
use Rattle.ring.specs.Ring.{count}
use Rattle.ring.specs.Each.{each}
use Rattle.vectors.specs.Fit.{apart_from}
use Rattle.vectors.proofs.fit.is_visited.Given as goal

abbrev pub invariant-loop-i : goal.invariant-loop-i
invariant-loop-i l = each (apart_from l.position l.visited l.tol) 0 (count l.visited) ≡ each (apart_from l.position l.visited l.tol) l.i (l.n - l.i)
