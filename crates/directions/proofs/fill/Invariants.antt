use Prim.Native.Nat.{◌*◌}
use mathlib.Core.Path.{◌≡◌}
use mathlib.Core.List.{◌++◌}
use lib.ListN.{length, drop}
use Rattle.ring.specs.Points.{points}
use Rattle.directions.specs.Directions.{direction_at}
use Rattle.directions.proofs.fill.Given as goal

abbrev pub invariant-loop-i : goal.invariant-loop-i
invariant-loop-i l =
    (length l.room ≡ length l.initial.room)
    × (l.room ≡ points (direction_at l.ring) l.i ++ drop (2 * l.i) l.initial.room)
