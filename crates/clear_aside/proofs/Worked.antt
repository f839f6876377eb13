-- Worked examples, by computation: a square going to the right below a triangle whose lowest corner it touches; one that this
-- corner is 1 deep in, which is clear drawn in by 1; and one that it is 3 deep in, which is clear by none. Assumes nothing.
use Prim.Native.Nat.{ℕ}
use mathlib.Core.Path.{◌≡◌, refl}
use mathlib.Core.List.{List, [], ◌∷◌}
use Rattle.ring.specs.Each.{each}
use Rattle.shifted.specs.declared.Spot.{Spot}
use Rattle.put_aside.specs.Middle.{least, greatest, level}
use Rattle.put_aside.specs.Aside.{width_of, way_of, inward, towards, set_off, gone, step_of, corner_by, spots, on_grid, stay_by}
use Rattle.reasons.specs.Reason.{mark, marks_up, marks_down}
use Rattle.reasons.specs.Parting.{left_on, right_on, way_left, edge_right, differ, parts}
use Rattle.reasons.specs.Lowest.{lower, low_spot}
use Rattle.reasons.specs.First.{first_from}
use Rattle.reasons.specs.Check.{balance, judged}
use Rattle.reason_search.specs.Lines.{box_low, box_high, box_line, either_way, way_line, line_of}
use Rattle.reason_search.specs.Search.{first_line, onward, line_at, reached, search_of}
use Rattle.drawn_aside.specs.Found.{found_by, clear_by, edge_first, or_else, least_from, least_how}

-- its lowest corner at (20, y)
abbrev triangle : ℕ → List ℕ
triangle y = 20 ∷ y ∷ 26 ∷ 40 ∷ 14 ∷ 40 ∷ []

-- from (x, 10) to (x', 16)
abbrev square : ℕ → ℕ → List ℕ
square x x' = x ∷ 10 ∷ x' ∷ 10 ∷ x' ∷ 16 ∷ x ∷ 16 ∷ []

abbrev from : Spot
from = record { x = 0; y = 10 }

abbrev to : Spot
to = record { x = 30; y = 10 }

as_it_is : least_how (triangle 16) (square 0 6) (square 30 36) from to ≡ clear_by 0
unfolding least_how least_from or_else found_by stay_by on_grid corner_by step_of way_of width_of inward towards set_off gone spots least greatest level search_of reached line_at onward first_line line_of way_line either_way box_line box_low box_high judged balance first_from parts way_left edge_right differ left_on right_on each low_spot lower marks_up marks_down mark
as_it_is = refl

drawn_in : least_how (triangle 15) (square 0 6) (square 30 36) from to ≡ clear_by 1
unfolding least_how least_from or_else found_by stay_by on_grid corner_by step_of way_of width_of inward towards set_off gone spots least greatest level search_of reached line_at onward first_line line_of way_line either_way box_line box_low box_high judged balance first_from parts way_left edge_right differ left_on right_on each low_spot lower marks_up marks_down mark
drawn_in = refl

too_deep : least_how (triangle 13) (square 0 6) (square 30 36) from to ≡ edge_first 0
unfolding least_how least_from or_else found_by stay_by on_grid corner_by step_of way_of width_of inward towards set_off gone spots least greatest level search_of reached line_at onward first_line line_of way_line either_way box_line box_low box_high judged balance first_from parts way_left edge_right differ left_on right_on each low_spot lower marks_up marks_down mark
too_deep = refl
