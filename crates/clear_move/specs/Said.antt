-- What is printed for an input: every byte. An input is the move, two words of four bytes, and then a book whose first ring is the
-- stationary polygon and whose second is the orbiting one, at the start. Definitions only.
use Rattle.std.specs.Prelude.{ℕ, ◌/◌, cond, List, ltb, eqb, length, drop, ℤ, Float}
use Rattle.refusals.specs.Refusals.{refused_number, refused_book, refused_few, refuse, passed}
use Rattle.book_layout.specs.Faults.{book_check}
use Rattle.book_layout.specs.Layout.{counts_of}
use Rattle.book_layout.specs.Reader.{numbers_of}
use Rattle.lines.specs.Lines.{refusal_line}
use Rattle.pair_input.specs.Input.{stationary_in, orbiting_in}
use Rattle.whole_input.specs.Whole.{whole_word_at, all_whole, wholes}
use Rattle.clear_calls.specs.Calls.{clear_move_call, reason_of}
use Rattle.clear_move.specs.Lines.{judged_text}

-- the numbers that the room for a reason holds: four for each of 256 edges
abbrev pub room_size : ℕ
room_size = 1024

-- two polygons and a move
unfoldable pub pair_text : List ℤ → List ℤ → ℤ → ℤ → List ℕ
pair_text st orb dx dy = judged_text (clear_move_call st orb dx dy room_size) (reason_of st orb dx dy) (length st / 2)

-- a number of rings, all their coordinates, and the first two: of one ring the orbiting polygon has too few corners; a coordinate
-- that is not whole, of any ring, is out of bounds
unfoldable pub rings_text : ℕ → List Float → List Float → List Float → ℤ → ℤ → List ℕ
rings_text rings xs st orb dx dy =
    cond (eqb rings 1) (refusal_line (refuse refused_few 1))
    (cond (all_whole xs) (pair_text (wholes st) (wholes orb) dx dy) (refusal_line (refuse refused_number 0)))

-- a book: its fault, or what is said of its rings
unfoldable pub book_text : List ℕ → ℤ → ℤ → List ℕ
book_text book dx dy =
    cond (passed (book_check book))
    (rings_text (length (counts_of book)) (numbers_of book) (stationary_in book) (orbiting_in book) dx dy) (refusal_line (book_check book))

-- bytes of the move
abbrev pub move_bytes : ℕ
move_bytes = 8

-- what is too short for the move is a book that is wrong at its first byte
unfoldable pub input_text : List ℕ → List ℕ
input_text input =
    cond (ltb (length input) move_bytes) (refusal_line (refuse refused_book 0))
    (book_text (drop move_bytes input) (whole_word_at input 0) (whole_word_at input 4))
