-- Worked examples, by computation, of the unit square S and the 3 by 1 rectangle R: round S, the path that `nfp_sliding.rs` traces,
-- which leads through S, the same begun one point later, so that its last leg does, R drawn far away, and S on itself; a path of
-- two points, and one to a point at which a corner is out of bounds. Assumes nothing.
use mathlib.Core.Path.{◌≡◌, refl}
use mathlib.Core.List.{List, [], ◌∷◌}
use lib.IntN.{ℤ, pos, negsuc}
use Rattle.ring.specs.Each.{each}
use Rattle.refusals.specs.Refusals.{refuse}
use Rattle.refusals.specs.Answers.{answers, refuses}
use Rattle.shifted.specs.Shifted.{up_of}
use Rattle.whole_engine.specs.Rows.{all_in_bounds}
use Rattle.whole_moves.specs.Moved.{moved_by}
use Rattle.reasons.specs.Reason.{mark, marks_up, marks_down}
use Rattle.reasons.specs.Parting.{left_on, right_on, way_left, edge_right, differ, parts}
use Rattle.reasons.specs.Lowest.{lower, low_spot}
use Rattle.reasons.specs.First.{first_from}
use Rattle.reasons.specs.Check.{balance, judged}
use Rattle.reason_search.specs.Lines.{box_low, box_high, box_line, either_way, way_line, line_of}
use Rattle.reason_search.specs.Search.{first_line, onward, line_at, reached, search_of}
use Rattle.clear_path.specs.Rows.{of_whole_path}
use Rattle.clear_path.specs.Path.{leg_found, or_else, first_leg}
use Rattle.clear_path.specs.Calls.{clear_path_call}
use Rattle.clear_path.specs.declared.PathGround.TheVariants.{Clear, Edge, Enclosed}

abbrev S : List ℤ
S = pos 0 ∷ pos 0 ∷ pos 1 ∷ pos 0 ∷ pos 1 ∷ pos 1 ∷ pos 0 ∷ pos 1 ∷ []

abbrev R : List ℤ
R = pos 0 ∷ pos 0 ∷ pos 3 ∷ pos 0 ∷ pos 3 ∷ pos 1 ∷ pos 0 ∷ pos 1 ∷ []

-- (1, -1), (1, 1), (-3, 1), (-3, -1)
round_it : clear_path_call S R (pos 1 ∷ negsuc 0 ∷ pos 1 ∷ pos 1 ∷ negsuc 2 ∷ pos 1 ∷ negsuc 2 ∷ negsuc 0 ∷ []) ≡ answers Clear
unfolding of_whole_path all_in_bounds moved_by up_of each first_leg or_else leg_found search_of reached line_at onward first_line line_of way_line either_way box_line box_low box_high judged balance first_from parts way_left edge_right differ left_on right_on low_spot lower marks_up marks_down mark
round_it = refl

-- from (-2, 1) straight down to (-2, -1)
through_it : clear_path_call S R (pos 1 ∷ negsuc 0 ∷ pos 1 ∷ pos 1 ∷ negsuc 1 ∷ pos 1 ∷ negsuc 1 ∷ negsuc 0 ∷ []) ≡ answers (Edge 2 0)
unfolding of_whole_path all_in_bounds moved_by up_of each first_leg or_else leg_found search_of reached line_at onward first_line line_of way_line either_way box_line box_low box_high judged balance first_from parts way_left edge_right differ left_on right_on low_spot lower marks_up marks_down mark
through_it = refl

-- from the last point to the first
through_it_at_last : clear_path_call S R (negsuc 1 ∷ negsuc 0 ∷ pos 1 ∷ negsuc 0 ∷ pos 1 ∷ pos 1 ∷ negsuc 1 ∷ pos 1 ∷ [])
    ≡ answers (Edge 3 0)
unfolding of_whole_path all_in_bounds moved_by up_of each first_leg or_else leg_found search_of reached line_at onward first_line line_of way_line either_way box_line box_low box_high judged balance first_from parts way_left edge_right differ left_on right_on low_spot lower marks_up marks_down mark
through_it_at_last = refl

-- R a million further left: the path's own numbers are not bounded
abbrev far : List ℤ
far = negsuc 999999 ∷ pos 0 ∷ negsuc 999996 ∷ pos 0 ∷ negsuc 999996 ∷ pos 1 ∷ negsuc 999999 ∷ pos 1 ∷ []

from_afar : clear_path_call S far
    (pos 1000001 ∷ negsuc 0 ∷ pos 1000001 ∷ pos 1 ∷ pos 999997 ∷ pos 1 ∷ pos 999997 ∷ negsuc 0 ∷ [])
    ≡ answers Clear
unfolding of_whole_path all_in_bounds moved_by up_of each first_leg or_else leg_found search_of reached line_at onward first_line line_of way_line either_way box_line box_low box_high judged balance first_from parts way_left edge_right differ left_on right_on low_spot lower marks_up marks_down mark
from_afar = refl

-- S on itself, and no move
on_its_equal : clear_path_call S S (pos 0 ∷ pos 0 ∷ pos 0 ∷ pos 0 ∷ pos 0 ∷ pos 0 ∷ []) ≡ answers (Enclosed 0)
unfolding of_whole_path all_in_bounds moved_by up_of each first_leg or_else leg_found search_of reached line_at onward first_line line_of way_line either_way box_line box_low box_high judged balance first_from parts way_left edge_right differ left_on right_on low_spot lower marks_up marks_down mark
on_its_equal = refl

two_points : clear_path_call S R (pos 1 ∷ negsuc 0 ∷ pos 1 ∷ pos 1 ∷ []) ≡ refuses (refuse 8 2)
unfolding of_whole_path
two_points = refl

-- a corner at (1,000,001, 5)
out_of_bounds : clear_path_call S R (pos 0 ∷ pos 5 ∷ pos 999998 ∷ pos 5 ∷ pos 0 ∷ pos 9 ∷ []) ≡ refuses (refuse 2 0)
unfolding of_whole_path all_in_bounds moved_by each
out_of_bounds = refl
