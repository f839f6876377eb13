use Prim.Native.Nat.{◌*◌}
use mathlib.Core.Path.{◌≡◌}
use mathlib.Core.List.{◌++◌}
use lib.ListN.{length, drop}
use Rattle.ring.specs.Points.{points}
use Rattle.ring.specs.Moved.{moved_at}
use Rattle.ring.proofs.moving.move_ring.Given as goal

abbrev pub invariant-loop-i : goal.invariant-loop-i
invariant-loop-i l = (length l.room ≡ length l.initial.room) × (l.room ≡ points (moved_at l.ring l.by) l.i ++ drop (2 * l.i) l.initial.room)
