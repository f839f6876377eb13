-- Worked examples, by computation, on a grid of quarters: a square going to the right below a triangle whose lowest corner it
-- touches, which is clear as it is, with its reason; the same with a room that is one number short; and a square that is off the
-- grid where the position and each of its corners are on it. Assumes nothing.
use mathlib.Core.Path.{◌≡◌, refl}
use mathlib.Core.List.{List, [], ◌∷◌}
use lib.IntN.{ℤ, pos}
use lib.Ieee.{Float, binary64, of_bits}
use Rattle.plane.specs.declared.Point.{Point}
use Rattle.ring.specs.Each.{each}
use Rattle.refusals.specs.Bounds.{coordinate, finite, every}
use Rattle.refusals.specs.Refusals.{refuse}
use Rattle.refusals.specs.Answers.{answers, refuses}
use Rattle.shifted.specs.Shifted.{up_of}
use Rattle.whole_engine.specs.Rows.{all_in_bounds}
use Rattle.whole_moves.specs.Moved.{moved_by}
use Rattle.to_grid.specs.Grid.{nearest, fits_grid}
use Rattle.put_aside.specs.Middle.{least, greatest, level}
use Rattle.put_aside.specs.Aside.{width_of, way_of, inward, towards, set_off, gone, step_of, corner_by, spots, on_grid, stay_by}
use Rattle.reasons.specs.Reason.{mark, marks_up, marks_down}
use Rattle.reasons.specs.Parting.{left_on, right_on, way_left, edge_right, differ, parts}
use Rattle.reasons.specs.Lowest.{lower, low_spot}
use Rattle.reasons.specs.First.{first_from}
use Rattle.reasons.specs.Check.{balance, judged}
use Rattle.reason_search.specs.Lines.{box_low, box_high, box_line, either_way, way_line, line_of}
use Rattle.reason_search.specs.Search.{first_line, onward, line_at, reached, search_of}
use Rattle.reason_search.specs.Room.{lines_to}
use Rattle.drawn_aside.specs.Found.{found_by, clear_by, or_else, least_from, least_how}
use Rattle.drawn_rows.specs.Rows.{all_on_grid, drawn_numbers, of_drawn_move}
use Rattle.clear_drawn.specs.Legs.{leg_least, leg_lines}
use Rattle.clear_drawn.specs.Calls.{short_for, written_for, clear_move_call, clear_move_room}

-- 0, 1/4, 1/2, 1, 2 and 250,000
abbrev f0 : Float
f0 = of_bits binary64 0

abbrev quarter : Float
quarter = of_bits binary64 0x3FD0_0000_0000_0000

abbrev half : Float
half = of_bits binary64 0x3FE0_0000_0000_0000

abbrev f1 : Float
f1 = of_bits binary64 0x3FF0_0000_0000_0000

abbrev f2 : Float
f2 = of_bits binary64 0x4000_0000_0000_0000

abbrev most : Float
most = of_bits binary64 0x410E_8480_0000_0000

-- its lowest corner at (1/2, 1/4)
abbrev triangle : List Float
triangle = half ∷ quarter ∷ f1 ∷ f1 ∷ f0 ∷ f1 ∷ []

abbrev square : List Float
square = f0 ∷ f0 ∷ quarter ∷ f0 ∷ quarter ∷ quarter ∷ f0 ∷ quarter ∷ []

-- the top of the way's box, which is the line of every edge
abbrev top : List ℤ → List ℤ
top rest = pos 1 ∷ pos 1 ∷ pos 0 ∷ pos 1 ∷ rest

-- a room of 11 numbers, and then what follows
abbrev room : List ℤ → List ℤ
room rest =
    pos 7 ∷ pos 7 ∷ pos 7 ∷ pos 7 ∷ pos 7 ∷ pos 7 ∷ pos 7 ∷ pos 7 ∷ pos 7 ∷ pos 7 ∷ pos 7 ∷ rest

abbrev at : Float → Float → Point
at a b = record { x = a; y = b }

slides : clear_move_call triangle square (at f0 f0) (at f2 f0) 4 12 ≡ answers (clear_by 0)
unfolding of_drawn_move drawn_numbers all_on_grid every coordinate finite fits_grid each all_in_bounds moved_by nearest of_bits up_of short_for leg_least least_how least_from or_else found_by stay_by on_grid corner_by step_of way_of width_of inward towards set_off gone spots least greatest level search_of reached line_at onward first_line line_of way_line either_way box_line box_low box_high judged balance first_from parts way_left edge_right differ left_on right_on low_spot lower marks_up marks_down mark
slides = refl

-- the lines, and the last number of the room as it was
slides_reason : clear_move_room triangle square (at f0 f0) (at f2 f0) 4 (room (pos 7 ∷ pos 7 ∷ [])) ≡ top (top (top (pos 7 ∷ [])))
unfolding of_drawn_move drawn_numbers all_on_grid every coordinate finite fits_grid each all_in_bounds moved_by nearest of_bits up_of short_for written_for leg_lines lines_to leg_least least_how least_from or_else found_by stay_by on_grid corner_by step_of way_of width_of inward towards set_off gone spots least greatest level search_of reached line_at onward first_line line_of way_line either_way box_line box_low box_high judged balance first_from parts way_left edge_right differ left_on right_on low_spot lower marks_up marks_down mark
slides_reason = refl

one_short : clear_move_call triangle square (at f0 f0) (at f2 f0) 4 11 ≡ refuses (refuse 5 0)
unfolding of_drawn_move drawn_numbers all_on_grid every coordinate finite fits_grid each all_in_bounds moved_by nearest of_bits up_of short_for leg_least least_how least_from or_else found_by stay_by on_grid corner_by step_of way_of width_of inward towards set_off gone spots least greatest level search_of reached line_at onward first_line line_of way_line either_way box_line box_low box_high judged balance first_from parts way_left edge_right differ left_on right_on low_spot lower marks_up marks_down mark
one_short = refl

-- 250,000 is a million quarters, and a corner is one farther on
placed_beyond : clear_move_call triangle square (at f0 f0) (at most f0) 4 12 ≡ refuses (refuse 14 0)
unfolding of_drawn_move drawn_numbers all_on_grid every coordinate finite fits_grid each all_in_bounds moved_by nearest of_bits
placed_beyond = refl
