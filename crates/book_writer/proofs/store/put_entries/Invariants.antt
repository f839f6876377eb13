use Prim.Native.Nat.{◌+◌, ◌*◌}
use mathlib.Core.Path.{◌≡◌}
use lib.ListN.{length, drop}
use lib.Seq.{sets}
use Rattle.refusals.specs.Rings.{total}
use Rattle.book_layout.specs.Layout.{vertex_bytes, entry_bytes, entries}
use Rattle.book_writer.proofs.store.put_entries.Given as goal

abbrev pub invariant-loop-i : goal.invariant-loop-i
invariant-loop-i l =
    (length l.room ≡ length l.initial.room) × (l.before + vertex_bytes * total (drop l.i l.counts) ≡ vertex_bytes * total l.counts)
    × (sets l.initial.room l.from (entries 0 l.counts l.parts) ≡ sets l.room (l.from + entry_bytes * l.i) (entries l.before (drop l.i l.counts) (drop l.i l.parts)))
