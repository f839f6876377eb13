-- The parts of the check of a book: its fields, its last fields, and its entries. Definitions only.
use Rattle.std.specs.Prelude.{ℕ, ◌+◌, ◌-◌, ◌*◌, Bool, List, [], ◌∷◌, length, drop, eqb}
use Rattle.refusals.specs.Refusals.{first_of}
use Rattle.refusals.specs.Refusals.{Told}
use Rattle.refusals.specs.Rings.{vertices_least, vertices_most, rings_most, within, total}
use Rattle.book_layout.specs.Layout.{field_bytes, vertex_bytes, entry_bytes, tail_bytes, book_least, book_most, counts_in, ring_count, entry_offset}
use Rattle.book_layout.specs.Faults.{fault, entries_check}
use Rattle.book_reader.specs.declared.check.Field.{Field}
use Rattle.book_reader.specs.declared.check.Field.TheVariants.{Offset, Vertices, Rings, End}

-- whether a field is right, by its value and what it is told to be
abbrev pub field_ok : Field → ℕ → ℕ → Bool
field_ok Offset value told = eqb value told
field_ok Vertices value told = within vertices_least vertices_most value
field_ok Rings value told = within 1 rings_most value
field_ok End value told = eqb value told

-- the length of a file, its ring count, and the offset of its first entry
unfoldable pub tail_check : List ℕ → Told
tail_check f =
    first_of
    (fault (within book_least book_most (length f)) 0
    ∷ fault (within 1 rings_most (ring_count f)) (length f - tail_bytes)
    ∷ fault (eqb (entry_offset f + entry_bytes * ring_count f + tail_bytes) (length f)) (length f - field_bytes)
    ∷ [])

-- the k entries from the place `at` on, and that the rings end exactly there
unfoldable pub list_check : List ℕ → ℕ → ℕ → Told
list_check f at k =
    first_of (entries_check k at 0 (drop at f) ∷ fault (eqb (vertex_bytes * total (counts_in k (drop at f))) at) (length f - field_bytes) ∷ [])
