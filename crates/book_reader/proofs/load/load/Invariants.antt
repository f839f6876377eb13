use Prim.Native.Nat.{◌+◌, ◌*◌, ◌-◌}
use mathlib.Core.Path.{◌≡◌}
use mathlib.Core.List.{map}
use lib.ListN.{length, drop}
use lib.Seq.{sets}
use lib.Ieee.{binary64, of_bits}
use Rattle.book_layout.specs.Layout.{coordinate_bytes, coords_in}
use Rattle.book_layout.specs.Faults.{◌passes, coords_check}
use Rattle.book_reader.proofs.load.load.Given as goal

abbrev pub invariant-loop-j : goal.invariant-loop-j
invariant-loop-j l =
    (length l.room ≡ length l.initial.room)
    × (coords_check (l.m - l.j) (l.at + coordinate_bytes * l.j) (drop (l.at + coordinate_bytes * l.j) l.f) passes)
    × (sets l.initial.room 0 (map (of_bits binary64) (coords_in l.m (drop l.at l.f))) ≡ sets l.room l.j (map (of_bits binary64) (coords_in (l.m - l.j) (drop (l.at + coordinate_bytes * l.j) l.f))))
