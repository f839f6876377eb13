use Prim.Native.Nat.{◌-◌}
use mathlib.Core.Path.{◌≡◌}
use Rattle.ring.specs.Each.{each}
use Rattle.simple_polygon.specs.Simple.{clear_row, is_simple}
use Rattle.simple_polygon.proofs.is_simple_polygon.Given as goal

abbrev pub invariant-loop-i : goal.invariant-loop-i
invariant-loop-i l = is_simple l.ring ≡ each (clear_row l.ring) l.i (l.n - l.i)
