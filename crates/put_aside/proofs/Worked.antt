-- Worked examples, by computation: a square drawn in by 1; one as narrow as 1, whose sides come to its middle; across a move to
-- the right, and across one that rises; each way of setting off; and what would leave the grid. Assumes nothing.
use Prim.Native.Nat.{ℕ}
use mathlib.Core.Path.{◌≡◌, refl}
use mathlib.Core.Bool.{true, false}
use mathlib.Core.List.{List, [], ◌∷◌}
use Rattle.ring.specs.Each.{each}
use Rattle.shifted.specs.declared.Spot.{Spot}
use Rattle.put_aside.specs.Middle.{least, greatest, level}
use Rattle.put_aside.specs.Aside.{width_of, way_of, inward, towards, set_off, gone, step_of, corner_by, spots, on_grid, stay_by}
use Rattle.put_aside.specs.Aside.{aside, stays_on, room_of}

abbrev spot : ℕ → ℕ → Spot
spot x y = record { x = x; y = y }

-- the corners of a box from (a, b) to (c, d), counter-clockwise
abbrev box : ℕ → ℕ → ℕ → ℕ → List ℕ
box a b c d = a ∷ b ∷ c ∷ b ∷ c ∷ d ∷ a ∷ d ∷ []

-- moves: to the right, up, up to the right, down to the left
abbrev here : Spot
here = spot 100 100

abbrev right : Spot
right = spot 130 100

abbrev up : Spot
up = spot 100 130

abbrev rising : Spot
rising = spot 130 110

-- ---- drawn in

as_it_is : aside (box 10 20 14 24) here right 0 ≡ box 10 20 14 24
unfolding corner_by step_of way_of width_of gone spots least greatest level
as_it_is = refl

drawn_in : aside (box 10 20 14 24) here right 1 ≡ box 11 21 13 23
unfolding corner_by way_of width_of inward spots least greatest level
drawn_in = refl

drawn_in_by_2 : aside (box 10 20 14 26) here right 11 ≡ box 12 22 12 24
unfolding corner_by way_of width_of inward spots least greatest level
drawn_in_by_2 = refl

-- the middle of 10 and 11 is 10
narrow : aside (box 10 20 11 24) here right 1 ≡ box 10 21 10 23
unfolding corner_by way_of width_of inward spots least greatest level
narrow = refl

-- ---- across the move: to the right, back, up, and rising

across_right : aside (box 10 20 14 24) here right 2 ≡ box 10 21 14 23
unfolding corner_by step_of way_of width_of towards gone spots least greatest level
across_right = refl

across_back : aside (box 10 20 14 24) right here 12 ≡ box 10 22 14 22
unfolding corner_by step_of way_of width_of towards gone spots least greatest level
across_back = refl

across_up : aside (box 10 20 14 24) here up 2 ≡ box 11 20 13 24
unfolding corner_by step_of way_of width_of towards gone spots least greatest level
across_up = refl

-- n = (-10, 30): the upper side is above the middle, and goes by (1, -1); the lower one is below, and goes by (-1, 1)
across_rising : aside (box 10 20 14 24) here rising 2 ≡ 9 ∷ 21 ∷ 13 ∷ 21 ∷ 15 ∷ 23 ∷ 11 ∷ 23 ∷ []
unfolding corner_by step_of way_of width_of towards gone spots least greatest level
across_rising = refl

-- a corner at the middle stays
at_the_middle : aside (10 ∷ 20 ∷ 14 ∷ 22 ∷ 10 ∷ 24 ∷ []) here right 2 ≡ 10 ∷ 21 ∷ 14 ∷ 22 ∷ 10 ∷ 23 ∷ []
unfolding corner_by step_of way_of width_of towards gone spots least greatest level
at_the_middle = refl

-- no move: all corners are at the middle
no_move : aside (box 10 20 14 24) here here 2 ≡ box 10 20 14 24
unfolding corner_by step_of way_of width_of towards gone spots least greatest level
no_move = refl

-- ---- set off

abbrev off : ℕ → List ℕ
off how = aside (box 10 20 14 24) here right how

set_right : off 3 ≡ box 11 20 15 24
unfolding corner_by step_of way_of width_of set_off gone spots least greatest level
set_right = refl

set_up : off 4 ≡ box 10 21 14 25
unfolding corner_by step_of way_of width_of set_off gone spots least greatest level
set_up = refl

set_left : off 5 ≡ box 9 20 13 24
unfolding corner_by step_of way_of width_of set_off gone spots least greatest level
set_left = refl

set_down : off 6 ≡ box 10 19 14 23
unfolding corner_by step_of way_of width_of set_off gone spots least greatest level
set_down = refl

set_right_up : off 7 ≡ box 11 21 15 25
unfolding corner_by step_of way_of width_of set_off gone spots least greatest level
set_right_up = refl

set_left_up : off 8 ≡ box 9 21 13 25
unfolding corner_by step_of way_of width_of set_off gone spots least greatest level
set_left_up = refl

set_left_down : off 9 ≡ box 9 19 13 23
unfolding corner_by step_of way_of width_of set_off gone spots least greatest level
set_left_down = refl

set_right_down : off 10 ≡ box 11 19 15 23
unfolding corner_by step_of way_of width_of set_off gone spots least greatest level
set_right_down = refl

set_right_by_2 : off 13 ≡ box 12 20 16 24
unfolding corner_by step_of way_of width_of set_off gone spots least greatest level
set_right_by_2 = refl

set_right_down_by_2 : off 20 ≡ box 12 18 16 22
unfolding corner_by step_of way_of width_of set_off gone spots least greatest level
set_right_down_by_2 = refl

-- ---- the grid ends at 0 and at 2,000,000

to_the_border : stays_on (box 1 20 14 24) here right 5 ≡ true
unfolding stay_by on_grid each corner_by step_of way_of width_of set_off gone spots least greatest level
to_the_border = refl

below_zero : stays_on (box 1 20 14 24) here right 15 ≡ false
unfolding stay_by on_grid each corner_by step_of way_of width_of set_off gone spots least greatest level
below_zero = refl

past_the_end : stays_on (box 10 20 14 2000000) here right 4 ≡ false
unfolding stay_by on_grid each corner_by step_of way_of width_of set_off gone spots least greatest level
past_the_end = refl

-- what the room holds: the corners and then what it held; and what it held, where a corner would leave the grid
written : room_of (1 ∷ 20 ∷ []) here right 5 (7 ∷ 7 ∷ 7 ∷ []) ≡ 0 ∷ 20 ∷ 7 ∷ []
unfolding stay_by on_grid each corner_by step_of way_of width_of set_off gone spots least greatest level
written = refl

unchanged : room_of (1 ∷ 20 ∷ []) here right 15 (7 ∷ 7 ∷ 7 ∷ []) ≡ 7 ∷ 7 ∷ 7 ∷ []
unfolding stay_by on_grid each corner_by step_of way_of width_of set_off gone spots least greatest level
unchanged = refl
