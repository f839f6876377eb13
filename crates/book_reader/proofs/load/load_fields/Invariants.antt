use Prim.Native.Nat.{◌+◌, ◌*◌, ◌-◌}
use mathlib.Core.Path.{◌≡◌}
use lib.ListN.{length, drop}
use lib.Seq.{sets}
use Rattle.book_layout.specs.Layout.{entry_bytes, fields_in}
use Rattle.book_reader.proofs.load.load_fields.Given as goal

abbrev pub invariant-loop-i : goal.invariant-loop-i
invariant-loop-i l =
    (length l.room ≡ length l.initial.room)
    × (sets l.initial.room 0 (fields_in l.p l.k (drop l.from l.f)) ≡ sets l.room l.i (fields_in l.p (l.k - l.i) (drop (l.from + entry_bytes * l.i) l.f)))
