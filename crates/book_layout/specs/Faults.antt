-- The checks of a file, "first fault told, L the length": refusal 7 with the place of the first fault. Definitions only.
use Rattle.std.specs.Prelude.{ℕ, zero, suc, ◌+◌, ◌-◌, ◌*◌, ◌/◌, ◌≡◌, Bool, true, List, [], ◌∷◌, length, take, drop, eqb}
use Rattle.refusals.specs.Refusals.{refused_book, none, refuse, passed, unless, first_of}
use Rattle.refusals.specs.Refusals.{Told}
use Rattle.reading.specs.Reading.{vertices, is_least}
use Rattle.number_bytes.specs.Bytes.{number_of}
use Rattle.refusals.specs.Rings.{vertices_least, vertices_most, rings_most, within, total}
use Rattle.book_layout.specs.Layout.{field_bytes, coordinate_bytes, vertex_bytes, entry_bytes, tail_bytes, book_least, book_most, coordinate_bits, coords_in, counts_of, ring_count, entry_offset}

-- refusal 7 with a place
abbrev pub fault_at : ℕ → Told
fault_at p = refuse refused_book p

-- what must hold, or else the fault
abbrev pub fault : Bool → ℕ → Told
fault ok p = unless ok refused_book p

-- no check has found a fault
infix 30 ◌passes
abbrev pub ◌passes : Told → Type 0
r passes = passed r ≡ true

-- "entry by entry, ring offset not the bytes before it, then vertices (place of that field)", and of the part nothing:
-- k entries, the first of them at the place `at` and with `before` bytes before its ring
unfoldable pub entries_check : ℕ → ℕ → ℕ → List ℕ → Told
entries_check zero at before f = none
entries_check (suc k) at before f =
    first_of
    (fault (eqb (number_of (take field_bytes f)) before) at
    ∷ fault (within vertices_least vertices_most (number_of (take field_bytes (drop field_bytes f)))) (at + field_bytes)
    ∷ entries_check k (at + entry_bytes) (before + vertex_bytes * number_of (take field_bytes (drop field_bytes f))) (drop entry_bytes f)
    ∷ [])

-- "coordinates in file order (the coordinate's first byte)": k coordinates, the first of them at the place `at`
unfoldable pub coords_check : ℕ → ℕ → List ℕ → Told
coords_check zero at f = none
coords_check (suc k) at f =
    first_of
    (fault (coordinate_bits (number_of (take coordinate_bytes f))) at
    ∷ coords_check k (at + coordinate_bytes) (drop coordinate_bytes f)
    ∷ [])

-- "rings in order, not the least reading (ring's first byte)": rings of these counts, the first of them at the place `at`
unfoldable pub least_check : List ℕ → ℕ → List ℕ → Told
least_check [] at f = none
least_check (n ∷ ns) at f =
    first_of (fault (is_least (vertices (coords_in (2 * n) f))) at ∷ least_check ns (at + vertex_bytes * n) (drop (vertex_bytes * n) f) ∷ [])

-- "L out of bounds (place 0); ring count (L-8); entry offset not L-8-12*count (L-4)", stated as a sum, so that it does not go below 0;
-- the entries; "ring bytes not ending exactly at the entries (L-4)"; the coordinates; the least readings
unfoldable pub book_check : List ℕ → Told
book_check f =
    first_of
    (fault (within book_least book_most (length f)) 0
    ∷ fault (within 1 rings_most (ring_count f)) (length f - tail_bytes)
    ∷ fault (eqb (entry_offset f + entry_bytes * ring_count f + tail_bytes) (length f)) (length f - field_bytes)
    ∷ entries_check (ring_count f) (entry_offset f) 0 (drop (entry_offset f) f)
    ∷ fault (eqb (vertex_bytes * total (counts_of f)) (entry_offset f)) (length f - field_bytes)
    ∷ coords_check (entry_offset f / coordinate_bytes) 0 f
    ∷ least_check (counts_of f) 0 f
    ∷ [])
