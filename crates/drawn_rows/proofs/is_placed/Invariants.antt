use Prim.Native.Nat.{◌-◌}
use mathlib.Core.Path.{◌≡◌}
use Rattle.ring.specs.Each.{each}
use Rattle.clear_path.specs.Rows.{is_placed}
use Rattle.drawn_rows.specs.Rows.{grid_of}
use Rattle.drawn_rows.proofs.is_placed.Given as goal

abbrev pub invariant-loop-i : goal.invariant-loop-i
invariant-loop-i l =
    each (is_placed (grid_of l.units l.orbiting) (grid_of l.units l.path)) 0 l.n
    ≡ each (is_placed (grid_of l.units l.orbiting) (grid_of l.units l.path)) l.i (l.n - l.i)
