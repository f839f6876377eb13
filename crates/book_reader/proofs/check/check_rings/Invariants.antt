use Prim.Native.Nat.{◌+◌, ◌*◌, ◌-◌}
use mathlib.Core.Path.{◌≡◌}
use lib.ListN.{drop}
use Rattle.refusals.specs.Rings.{total}
use Rattle.book_layout.specs.Layout.{vertex_bytes, entry_bytes, counts_in}
use Rattle.book_layout.specs.Faults.{◌passes, entries_check, coords_check, least_check}
use Rattle.book_reader.proofs.check.check_rings.Given as goal

abbrev pub invariant-loop-i : goal.invariant-loop-i
invariant-loop-i l =
    (least_check (counts_in l.k (drop l.from l.f)) 0 l.f ≡ least_check (counts_in (l.k - l.i) (drop (l.from + entry_bytes * l.i) l.f)) l.at (drop l.at l.f))
    × (l.at + vertex_bytes * total (counts_in (l.k - l.i) (drop (l.from + entry_bytes * l.i) l.f)) ≡ l.from)
    × (entries_check (l.k - l.i) (l.from + entry_bytes * l.i) l.at (drop (l.from + entry_bytes * l.i) l.f) passes)
    × (coords_check (2 * total (counts_in (l.k - l.i) (drop (l.from + entry_bytes * l.i) l.f))) l.at (drop l.at l.f) passes)
