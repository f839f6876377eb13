-- Worked examples, by computation, of a triangle T with corners (0, 0), (1, 0) and (0, 1): the order of the refusals, and a disc
-- that is out of bounds where the position and each of its corners are within. Assumes nothing.
use mathlib.Core.Path.{◌≡◌, refl}
use mathlib.Core.Bool.{false}
use mathlib.Core.List.{List, [], ◌∷◌}
use lib.IntN.{ℤ, pos}
use lib.Ieee.{Float, binary64, of_bits}
use Rattle.ring.specs.Each.{each}
use Rattle.refusals.specs.Bounds.{coordinate, finite, every}
use Rattle.refusals.specs.Refusals.{refused_length, refused_number, refused_setting, refused_few, refused_grid, none, refuse}
use Rattle.whole_engine.specs.Rows.{all_in_bounds}
use Rattle.whole_moves.specs.Moved.{moved_by}
use Rattle.to_grid.specs.Grid.{nearest, fits_grid}
use Rattle.drawn_rows.specs.Rows.{all_on_grid, drawn_numbers, of_drawn_move, of_drawn_path, reason_numbers, of_drawn_reason}

-- 0, 1, 999,999, a million and two millions
abbrev f0 : Float
f0 = of_bits binary64 0

abbrev f1 : Float
f1 = of_bits binary64 0x3FF0_0000_0000_0000

abbrev below : Float
below = of_bits binary64 0x412E_847E_0000_0000

abbrev million : Float
million = of_bits binary64 0x412E_8480_0000_0000

abbrev beyond : Float
beyond = of_bits binary64 0x413E_8480_0000_0000

abbrev infinite : Float
infinite = of_bits binary64 0x7FF0_0000_0000_0000

abbrev T : List Float
T = f0 ∷ f0 ∷ f1 ∷ f0 ∷ f0 ∷ f1 ∷ []

-- from (0, 0) to (x, 0)
abbrev to : Float → List Float
to x = f0 ∷ f0 ∷ x ∷ f0 ∷ []

-- ---- each refusal before the next

-- where a position is not finite, and off the grid too
infinite_off : all_on_grid 0 T T (to infinite) ≡ false
unfolding all_on_grid every fits_grid of_bits
infinite_off = refl

number_first : of_drawn_move T T (to infinite) 0 ≡ refuse refused_number 0
unfolding of_drawn_move drawn_numbers every coordinate finite of_bits
number_first = refl

-- where 1 is off the grid
fine_off : all_on_grid 2000000 T T (to f0) ≡ false
unfolding all_on_grid every fits_grid of_bits
fine_off = refl

units_next : of_drawn_move T T (to f0) 2000000 ≡ refuse refused_setting 0
unfolding of_drawn_move drawn_numbers every coordinate finite of_bits
units_next = refl

-- a position is not bounded by a million, but it is by the grid
grid_last : of_drawn_move T T (to beyond) 1 ≡ refuse refused_grid 0
unfolding of_drawn_move drawn_numbers all_on_grid every coordinate finite fits_grid of_bits
grid_last = refl

-- a coordinate is bounded by it
corner_beyond : of_drawn_move T (beyond ∷ f0 ∷ T) (to f0) 1 ≡ refuse refused_number 0
unfolding of_drawn_move drawn_numbers every coordinate of_bits
corner_beyond = refl

-- the lists come before the numbers
odd_first : of_drawn_move T (beyond ∷ T) (to infinite) 0 ≡ refuse refused_length 1
unfolding of_drawn_move
odd_first = refl

one_point : of_drawn_path T T (infinite ∷ infinite ∷ []) 0 ≡ refuse refused_few 2
unfolding of_drawn_path
one_point = refl

-- ---- the disc at the points

-- a million and 1 is out of bounds
placed_beyond : of_drawn_move T T (to million) 1 ≡ refuse refused_grid 0
unfolding of_drawn_move drawn_numbers all_on_grid every coordinate finite fits_grid each all_in_bounds moved_by nearest of_bits
placed_beyond = refl

-- 999,999 and 1 is within
just_placed : of_drawn_move T T (to below) 1 ≡ none
unfolding of_drawn_move drawn_numbers all_on_grid every coordinate finite fits_grid each all_in_bounds moved_by nearest of_bits
just_placed = refl

path_placed : of_drawn_path T T (to below) 1 ≡ none
unfolding of_drawn_path drawn_numbers all_on_grid every coordinate finite fits_grid each all_in_bounds moved_by nearest of_bits
path_placed = refl

-- ---- lines

-- the line from (0, 0) to (1, 0), three times
abbrev lines : ℤ → List ℤ
lines z = pos 0 ∷ pos 0 ∷ pos 1 ∷ pos 0 ∷ pos 0 ∷ pos 0 ∷ pos 1 ∷ pos 0 ∷ pos 0 ∷ pos 0 ∷ pos 1 ∷ z ∷ []

line_first : of_drawn_reason T T (to f0) 0 21 (lines (pos 1000001)) ≡ refuse refused_number 0
unfolding of_drawn_reason reason_numbers every coordinate finite all_in_bounds of_bits
line_first = refl

how_next : of_drawn_reason T T (to beyond) 1 21 (lines (pos 0)) ≡ refuse refused_setting 0
unfolding of_drawn_reason reason_numbers every coordinate finite all_in_bounds of_bits
how_next = refl

how_at_most : of_drawn_reason T T (to beyond) 1 20 (lines (pos 0)) ≡ refuse refused_grid 0
unfolding of_drawn_reason reason_numbers all_on_grid every coordinate finite fits_grid all_in_bounds of_bits
how_at_most = refl

told : of_drawn_reason T T (to below) 1 20 (lines (pos 1000000)) ≡ none
unfolding of_drawn_reason reason_numbers all_on_grid every coordinate finite fits_grid each all_in_bounds moved_by nearest of_bits
told = refl

one_line : of_drawn_reason T T (to f0) 0 21 (pos 0 ∷ pos 0 ∷ pos 1 ∷ pos 0 ∷ []) ≡ refuse refused_few 2
unfolding of_drawn_reason
one_line = refl
