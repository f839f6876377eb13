use Prim.Native.Nat.{◌-◌}
use mathlib.Core.Path.{◌≡◌}
use Rattle.ring.specs.Each.{each}
use Rattle.clear_path.specs.Rows.{is_placed}
use Rattle.clear_path.proofs.row.are_placed.Given as goal

abbrev pub invariant-loop-i : goal.invariant-loop-i
invariant-loop-i l = each (is_placed l.orbiting l.path) 0 l.n ≡ each (is_placed l.orbiting l.path) l.i (l.n - l.i)
