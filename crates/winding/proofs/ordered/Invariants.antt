use Prim.Native.Nat.{◌*◌}
use mathlib.Core.Path.{◌≡◌}
use mathlib.Core.List.{◌++◌}
use lib.ListN.{length, drop}
use Rattle.ring.specs.Points.{points}
use Rattle.winding.specs.Winding.{ordered_vertex}
use Rattle.winding.proofs.ordered.Given as goal

abbrev pub invariant-loop-i : goal.invariant-loop-i
invariant-loop-i l =
    (length l.room ≡ length l.initial.room)
    × (l.room ≡ points (ordered_vertex l.polygon l.reverse) l.i ++ drop (2 * l.i) l.initial.room)
