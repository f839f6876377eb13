use Prim.Native.Nat.{◌+◌, ◌*◌}
use mathlib.Core.Path.{◌≡◌}
use lib.ListN.{length, drop}
use lib.Seq.{sets}
use Rattle.reading.specs.Reading.{flat, choice}
use Rattle.reading.specs.Lent.{ring_of}
use Rattle.book_layout.specs.Layout.{coordinate_bytes, coord_bytes}
use Rattle.book_writer.proofs.store.put_ring.Given as goal

abbrev pub invariant-loop-j : goal.invariant-loop-j
invariant-loop-j l =
    (length l.room ≡ length l.initial.room)
    × (sets l.initial.room l.at (coord_bytes (flat (choice (ring_of l.ring) l.c))) ≡ sets l.room (l.at + coordinate_bytes * l.j) (coord_bytes (drop l.j (flat (choice (ring_of l.ring) l.c)))))
