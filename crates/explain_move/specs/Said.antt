-- What is printed for an input: every byte. Definitions only.
use Rattle.std.specs.Prelude.{ℕ, cond, List, ltb, length, drop, Float}
use Rattle.std.specs.Float.{binary64}
use Rattle.std.specs.Float.Ieee.{of_bits}
use Rattle.plane.specs.Vector.{point}
use Rattle.plane.specs.declared.Point.{Point}
use Rattle.refusals.specs.Refusals.{passed}
use Rattle.book_layout.specs.Faults.{book_check}
use Rattle.grounds.specs.Calls.{explain_call}
use Rattle.lines.specs.Lines.{number_line}
use Rattle.pair_input.specs.Input.{words_bytes, word_at, stationary_in, orbiting_in}
use Rattle.explain_move.specs.Lines.{outcome_line}

-- two polygons
unfoldable pub explained_text : List Float → List Float → Point → Float → List ℕ
explained_text st orb move tol = outcome_line (explain_call st orb move tol)

-- a book: its fault, or the pair of its first two rings
unfoldable pub explained_book_text : List ℕ → Point → Float → List ℕ
explained_book_text book move tol =
    cond (passed (book_check book)) (explained_text (stationary_in book) (orbiting_in book) move tol) (number_line (book_check book).number)

-- the move's x and y, and the tolerance
abbrev pub move_in : List ℕ → Point
move_in input = point (of_bits binary64 (word_at input 0)) (of_bits binary64 (word_at input 8))

abbrev pub tolerance_in : List ℕ → Float
tolerance_in input = of_bits binary64 (word_at input 16)

-- 1 for what is too short for the three, and else the book
unfoldable pub explain_text : List ℕ → List ℕ
explain_text input =
    cond (ltb (length input) words_bytes) (number_line 1) (explained_book_text (drop words_bytes input) (move_in input) (tolerance_in input))
