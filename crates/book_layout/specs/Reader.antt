-- The reader of a book: when it refuses a file, and what it leaves in the three rooms. Definitions only.
use Rattle.std.specs.Prelude.{ℕ, Bool, ◌&&◌, List, [], ◌∷◌, map, length, leb, Float}
use Rattle.std.specs.Float.{binary64}
use Rattle.std.specs.Float.Ieee.{of_bits}
use Rattle.ring.specs.Room.{laid}
use Rattle.refusals.specs.Answers.{Outcome, outcome, left}
use Rattle.refusals.specs.Refusals.{first_of}
use Rattle.refusals.specs.Screens.{wrong_book_rooms}
use Rattle.refusals.specs.Refusals.{Told}
use Rattle.book_layout.specs.Layout.{coords_of, counts_of, parts_of}
use Rattle.book_layout.specs.Faults.{book_check}

-- the numbers of a file, as stored
abbrev pub numbers_of : List ℕ → List Float
numbers_of f = map (of_bits binary64) (coords_of f)

-- rooms of so many numbers, so many counts and so many parts hold the rings of the file, their counts and as many parts
abbrev pub holds_all : List ℕ → ℕ → ℕ → ℕ → Bool
holds_all f room counts parts = leb (length (numbers_of f)) room && (leb (length (counts_of f)) counts && leb (length (counts_of f)) parts)

-- the first of the tests that fails: 7 before 4
unfoldable pub read_refusal : List ℕ → ℕ → ℕ → ℕ → Told
read_refusal f room counts parts =
    first_of (book_check f ∷ wrong_book_rooms (length (numbers_of f)) room (length (counts_of f)) counts parts ∷ [])

-- what the call answers, and the three rooms as it leaves them
abbrev pub read_call : List ℕ → ℕ → ℕ → ℕ → Outcome ℕ
read_call f room counts parts = outcome (read_refusal f room counts parts) (length (counts_of f))

abbrev pub read_room : List ℕ → List Float → ℕ → ℕ → List Float
read_room f room counts parts = left (read_refusal f (length room) counts parts) (laid (numbers_of f) room) room

abbrev pub read_counts : List ℕ → ℕ → List ℕ → ℕ → List ℕ
read_counts f room counts parts = left (read_refusal f room (length counts) parts) (laid (counts_of f) counts) counts

abbrev pub read_parts : List ℕ → ℕ → ℕ → List ℕ → List ℕ
read_parts f room counts parts = left (read_refusal f room counts (length parts)) (laid (parts_of f) parts) parts
