use Prim.Native.Nat.{◌*◌}
use mathlib.Core.Path.{◌≡◌}
use mathlib.Core.List.{◌++◌}
use lib.ListN.{length, drop}
use Rattle.ring.specs.Points.{points}
use Rattle.discs.specs.Disc.{vertex_of}
use Rattle.discs.proofs.draw.Given as goal

abbrev pub invariant-loop-i : goal.invariant-loop-i
invariant-loop-i l =
    (length l.room ≡ length l.initial.room) × (l.room ≡ points (vertex_of l.centre l.radius l.m) l.i ++ drop (2 * l.i) l.initial.room)
