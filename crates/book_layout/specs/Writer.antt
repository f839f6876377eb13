-- The writer of a book: what it is lent, when it refuses, and what it leaves in the room. Definitions only.
use Rattle.std.specs.Prelude.{ℕ, ◌+◌, ◌*◌, ◌≤◌, ◌≡◌, true, List, [], ◌∷◌, map, length, take, drop, Float}
use Rattle.std.specs.Float.{binary64}
use Rattle.std.specs.Float.Ieee.{eq, of_bits, to_bits}
use Rattle.ring.specs.Room.{laid}
use Rattle.refusals.specs.Answers.{Outcome, outcome, left}
use Rattle.refusals.specs.Refusals.{first_of}
use Rattle.refusals.specs.Screens.{short_room}
use Rattle.refusals.specs.Rows.{of_rings}
use Rattle.refusals.specs.Bounds.{coordinates}
use Rattle.refusals.specs.Refusals.{Told}
use Rattle.number_bytes.specs.Bytes.{Each, Formed}
use Rattle.reading.specs.Reading.{Vertex, vertices}
use Rattle.reading.specs.Lent.{ring_of}
use Rattle.book_layout.specs.Faults.{◌passes}
use Rattle.refusals.specs.Rings.{rings_most, total, sized_all}
use Rattle.book_layout.specs.Layout.{vertex_bytes, entry_bytes, tail_bytes, PartNumber, book_of}

-- the rings of these vertex counts, one after the other, as a book keeps their coordinates
unfoldable pub rings_from : List ℕ → List Float → List (List Vertex)
rings_from [] xs = []
rings_from (n ∷ ns) xs = ring_of (take (2 * n) xs) ∷ rings_from ns (drop (2 * n) xs)

-- the same rings with the bits that are lent
unfoldable pub lent_from : List ℕ → List Float → List (List Vertex)
lent_from [] xs = []
lent_from (n ∷ ns) xs = vertices (map (to_bits binary64) (take (2 * n) xs)) ∷ lent_from ns (drop (2 * n) xs)

-- two coordinates that are equal as numbers
abbrev pub AsNumbers : ℕ → ℕ → Type 0
AsNumbers a b = eq (of_bits binary64 a) (of_bits binary64 b) ≡ true

-- how many bytes the book has
abbrev pub book_size : List ℕ → ℕ
book_size ns = vertex_bytes * total ns + entry_bytes * length ns + tail_bytes

-- the first of the tests that fails, for a room of so many bytes
unfoldable pub write_refusal : List Float → List ℕ → List ℕ → ℕ → Told
write_refusal xs ns ps size = first_of (of_rings xs ns ps ∷ short_room (book_size ns) size ∷ [])

-- what the call answers, and the room as it leaves it
abbrev pub write_call : List Float → List ℕ → List ℕ → ℕ → Outcome ℕ
write_call xs ns ps size = outcome (write_refusal xs ns ps size) (book_size ns)

abbrev pub write_room : List Float → List ℕ → List ℕ → List ℕ → List ℕ
write_room xs ns ps room = left (write_refusal xs ns ps (length room)) (laid (book_of (rings_from ns xs) ps) room) room

-- lists that pass the tests of the writer but for its room
pub record Held (xs : List Float) (ns ps : List ℕ) : Type 0 where
  pub one : 1 ≤ length ns
  pub few : length ns ≤ rings_most
  pub sized : sized_all ns ≡ true
  pub whole : length xs ≡ 2 * total ns
  pub bounded : coordinates xs ≡ true
  pub many : length ps ≡ length ns

-- the writer can write the file f: it takes these numbers, counts and parts, with room for just that file, and their book is f
pub record Writes (xs : List Float) (ns ps f : List ℕ) : Type 0 where
  pub formed : Formed xs
  pub parts : Each PartNumber ps
  pub taken : write_refusal xs ns ps (length f) passes
  pub book : book_of (rings_from ns xs) ps ≡ f
