use Prim.Native.Nat.{◌-◌}
use mathlib.Core.Path.{◌≡◌}
use Rattle.ring.specs.Each.{each}
use Rattle.overlap.specs.Overlap.{meets_at, meets_along}
use Rattle.overlap.proofs.meets_along.Given as goal

abbrev pub invariant-loop-i : goal.invariant-loop-i
invariant-loop-i l = meets_along l.a l.b l.edges l.tolerance ≡ each (meets_at l.a l.b l.edges l.tolerance) l.i (l.n - l.i)
