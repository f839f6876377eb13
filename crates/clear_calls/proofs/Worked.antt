-- Worked examples, by computation: S and Q of SCOPE's measured pieces, Q sliding by (2, 0) below S and moving by (0, 2) into it; a
-- room that is one number short; a reason that is lent, one with a line turned round, and one of a number too few; a corner out
-- of bounds at the end. Assumes nothing.
use mathlib.Core.Path.{◌≡◌, refl}
use mathlib.Core.List.{List, [], ◌∷◌}
use lib.IntN.{ℤ, pos, negsuc}
use Rattle.ring.specs.Each.{each}
use Rattle.refusals.specs.Refusals.{refuse}
use Rattle.refusals.specs.Answers.{answers, refuses}
use Rattle.shifted.specs.Shifted.{up_of}
use Rattle.whole_engine.specs.Rows.{all_in_bounds}
use Rattle.whole_moves.specs.Moved.{moved_by}
use Rattle.reasons.specs.Reason.{mark, marks_up, marks_down}
use Rattle.reasons.specs.Parting.{left_on, right_on, way_left, edge_right, differ, parts}
use Rattle.reasons.specs.Lowest.{lower, low_spot}
use Rattle.reasons.specs.First.{first_from}
use Rattle.reasons.specs.Check as found
use Rattle.reasons.specs.Check.{clear, edge, enclosed, balance, ground_of}
use Rattle.reason_search.specs.Lines.{box_low, box_high, box_line, either_way, way_line, line_of}
use Rattle.reason_search.specs.Search.{first_line, onward, line_at, reached, search_of}
use Rattle.reason_search.specs.Room.{lines_to}
use Rattle.clear_calls.specs.Rows.{of_whole_move, of_reason}
use Rattle.clear_calls.specs.Calls.{short_for, written_for, clear_move_call, clear_move_room, check_reason_call}

abbrev S : List ℤ
S = pos 0 ∷ pos 0 ∷ pos 4 ∷ pos 0 ∷ pos 4 ∷ pos 4 ∷ pos 0 ∷ pos 4 ∷ []

-- Q below S
abbrev Q : List ℤ
Q = pos 0 ∷ negsuc 1 ∷ pos 2 ∷ negsuc 1 ∷ pos 2 ∷ pos 0 ∷ pos 0 ∷ pos 0 ∷ []

-- the lines of a reason, the last of them as it is given, and then what follows
abbrev lines : (a b c d : ℤ) → List ℤ → List ℤ
lines a b c d rest =
    pos 4 ∷ pos 0 ∷ pos 0 ∷ pos 0 ∷ pos 4 ∷ pos 0 ∷ pos 4 ∷ pos 4 ∷ pos 4 ∷ pos 4 ∷ pos 0 ∷ pos 4 ∷ a ∷ b ∷ c ∷ d ∷ rest

-- the line that the search takes for every edge, the top of the way's box, and then what follows
abbrev top : List ℤ → List ℤ
top rest = pos 1 ∷ pos 0 ∷ pos 0 ∷ pos 0 ∷ rest

-- a room of 15 numbers, and then what follows
abbrev room : List ℤ → List ℤ
room rest =
    pos 7 ∷ pos 7 ∷ pos 7 ∷ pos 7 ∷ pos 7 ∷ pos 7 ∷ pos 7 ∷ pos 7 ∷ pos 7 ∷ pos 7 ∷ pos 7 ∷ pos 7 ∷ pos 7 ∷ pos 7 ∷ pos 7 ∷ rest

-- ---- `clear_move`

slide : clear_move_call S Q (pos 2) (pos 0) 16 ≡ answers clear
unfolding of_whole_move all_in_bounds moved_by up_of short_for search_of reached line_at onward first_line line_of way_line either_way box_line box_low box_high found.judged balance first_from parts way_left edge_right differ left_on right_on each low_spot lower marks_up marks_down mark
slide = refl

-- the lines, and the last number of the room as it was
slide_reason : clear_move_room S Q (pos 2) (pos 0) (room (pos 7 ∷ pos 7 ∷ [])) ≡ top (top (top (top (pos 7 ∷ []))))
unfolding of_whole_move all_in_bounds moved_by up_of short_for written_for lines_to search_of reached line_at onward first_line line_of way_line either_way box_line box_low box_high found.judged balance first_from parts way_left edge_right differ left_on right_on each low_spot lower marks_up marks_down mark
slide_reason = refl

one_short : clear_move_call S Q (pos 2) (pos 0) 15 ≡ refuses (refuse 5 0)
unfolding of_whole_move all_in_bounds moved_by up_of short_for search_of reached line_at onward first_line line_of way_line either_way box_line box_low box_high found.judged balance first_from parts way_left edge_right differ left_on right_on each low_spot lower marks_up marks_down mark
one_short = refl

one_short_kept : clear_move_room S Q (pos 2) (pos 0) (room []) ≡ room []
unfolding of_whole_move all_in_bounds moved_by up_of short_for written_for search_of reached line_at onward first_line line_of way_line either_way box_line box_low box_high found.judged balance first_from parts way_left edge_right differ left_on right_on each low_spot lower marks_up marks_down mark
one_short_kept = refl

-- no room is asked for where it is not clear
blocked : clear_move_call S Q (pos 0) (pos 2) 0 ≡ answers (edge 0)
unfolding of_whole_move all_in_bounds moved_by up_of short_for search_of reached line_at onward first_line line_of way_line either_way box_line box_low box_high found.judged balance first_from parts way_left edge_right differ left_on right_on each low_spot lower marks_up marks_down mark
blocked = refl

-- a corner of Q is moved to (1,000,001, 0)
out_of_bounds : clear_move_call S Q (pos 999999) (pos 0) 16 ≡ refuses (refuse 2 0)
unfolding of_whole_move all_in_bounds moved_by
out_of_bounds = refl

-- ---- `check_reason`

accepted : check_reason_call S Q (pos 2) (pos 0) (lines (pos 0) (pos 4) (pos 0) (pos 0) []) ≡ answers clear
unfolding of_reason all_in_bounds moved_by up_of ground_of found.judged balance first_from parts way_left edge_right differ left_on right_on each low_spot lower marks_up marks_down mark
accepted = refl

last_turned : check_reason_call S Q (pos 2) (pos 0) (lines (pos 0) (pos 0) (pos 0) (pos 4) []) ≡ answers (edge 3)
unfolding of_reason all_in_bounds moved_by up_of ground_of found.judged balance first_from parts way_left edge_right differ left_on right_on each low_spot lower marks_up marks_down mark
last_turned = refl

-- four numbers more than the edges ask for, and one
fifth_line : check_reason_call S Q (pos 2) (pos 0) (lines (pos 0) (pos 4) (pos 0) (pos 0) (pos 0 ∷ pos 4 ∷ pos 0 ∷ pos 0 ∷ []))
    ≡ refuses (refuse 9 2)
unfolding of_reason
fifth_line = refl

no_whole_line : check_reason_call S Q (pos 2) (pos 0) (lines (pos 0) (pos 4) (pos 0) (pos 0) (pos 0 ∷ [])) ≡ refuses (refuse 1 2)
unfolding of_reason
no_whole_line = refl

-- S on its equal with no move, each edge by its own line
abbrev own : List ℤ
own =
    pos 0 ∷ pos 0 ∷ pos 4 ∷ pos 0 ∷ pos 4 ∷ pos 0 ∷ pos 4 ∷ pos 4 ∷ pos 4 ∷ pos 4 ∷ pos 0 ∷ pos 4 ∷ pos 0 ∷ pos 4 ∷ pos 0 ∷ pos 0 ∷ []

on_its_equal : check_reason_call S S (pos 0) (pos 0) own ≡ answers enclosed
unfolding of_reason all_in_bounds moved_by up_of ground_of found.judged balance first_from parts way_left edge_right differ left_on right_on each low_spot lower marks_up marks_down mark
on_its_equal = refl
