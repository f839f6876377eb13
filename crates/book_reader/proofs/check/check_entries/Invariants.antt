use Prim.Native.Nat.{◌+◌, ◌*◌, ◌-◌, ◌≤◌}
use mathlib.Core.Path.{◌≡◌}
use lib.ListN.{drop}
use Rattle.refusals.specs.Rings.{vertices_most, total}
use Rattle.book_layout.specs.Layout.{vertex_bytes, entry_bytes, counts_in}
use Rattle.book_layout.specs.Faults.{entries_check}
use Rattle.book_reader.proofs.check.check_entries.Given as goal

abbrev pub invariant-loop-i : goal.invariant-loop-i
invariant-loop-i l =
    (l.before ≤ vertices_most * vertex_bytes * l.i)
    × (entries_check l.k l.from 0 (drop l.from l.f) ≡ entries_check (l.k - l.i) (l.from + entry_bytes * l.i) l.before (drop (l.from + entry_bytes * l.i) l.f))
    × (vertex_bytes * total (counts_in l.k (drop l.from l.f)) ≡ l.before + vertex_bytes * total (counts_in (l.k - l.i) (drop (l.from + entry_bytes * l.i) l.f)))
