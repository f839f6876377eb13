-- Worked examples, by computation, each coordinate 10 more: S and Q of SCOPE's measured pieces, Q sliding by (2, 0) below S, where
-- one line serves every edge, and moving by (0, 2) into it; S on its equal; an L round Q, where the line before is left; an edge
-- beside the way of a corner, one beside an edge of it, and one that its own line parts alone.
use Prim.Native.Nat.{ℕ}
use mathlib.Core.Path.{◌≡◌, refl}
use mathlib.Core.List.{List, [], ◌∷◌}
use Rattle.ring.specs.Each.{each}
use Rattle.reasons.specs.Reason.{mark, marks_up, marks_down}
use Rattle.reasons.specs.Parting.{left_on, right_on, way_left, edge_right, differ, parts}
use Rattle.reasons.specs.Lowest.{lower, low_spot}
use Rattle.reasons.specs.First.{first_from}
use Rattle.reasons.specs.Check.{clear, edge, enclosed, balance, judged}
use Rattle.reason_search.specs.Lines.{spot, box_low, box_high, box_line, either_way, way_line, line_of}
use Rattle.reason_search.specs.Search.{first_line, onward, line_at, reached, search_of}
use Rattle.reason_search.specs.Room.{lines_to}

abbrev S : List ℕ
S = 10 ∷ 10 ∷ 14 ∷ 10 ∷ 14 ∷ 14 ∷ 10 ∷ 14 ∷ []

-- Q below S, where it has slid to, and in S
abbrev Q : List ℕ
Q = 10 ∷ 8 ∷ 12 ∷ 8 ∷ 12 ∷ 10 ∷ 10 ∷ 10 ∷ []

abbrev slid : List ℕ
slid = 12 ∷ 8 ∷ 14 ∷ 8 ∷ 14 ∷ 10 ∷ 12 ∷ 10 ∷ []

abbrev within : List ℕ
within = 10 ∷ 10 ∷ 12 ∷ 10 ∷ 12 ∷ 12 ∷ 10 ∷ 12 ∷ []

-- ---- the slide: the top of the way's box for every edge

slide : search_of S Q slid ≡ clear
unfolding search_of reached line_at onward first_line line_of way_line either_way box_line box_low box_high judged balance first_from parts way_left edge_right differ left_on right_on each low_spot lower marks_up marks_down mark
slide = refl

slide_lines : lines_to S Q slid 4
    ≡ 1000001 ∷ 10 ∷ 1000000 ∷ 10 ∷ 1000001 ∷ 10 ∷ 1000000 ∷ 10 ∷ 1000001 ∷ 10 ∷ 1000000 ∷ 10 ∷ 1000001 ∷ 10 ∷ 1000000 ∷ 10 ∷ []
unfolding lines_to line_at onward first_line line_of way_line either_way box_line box_low box_high first_from parts way_left edge_right differ left_on right_on each
slide_lines = refl

-- ---- into S, and on it

blocked : search_of S Q within ≡ edge 0
unfolding search_of reached line_at onward first_line line_of way_line either_way box_line box_low box_high judged balance first_from parts way_left edge_right differ left_on right_on each low_spot lower marks_up marks_down mark
blocked = refl

on_its_equal : search_of S S S ≡ enclosed
unfolding search_of reached line_at onward first_line line_of way_line either_way box_line box_low box_high judged balance first_from parts way_left edge_right differ left_on right_on each low_spot lower marks_up marks_down mark
on_its_equal = refl

-- ---- an L with Q in its notch: the bottom of Q's box, its right side for three edges, and the bottom again

abbrev notched : List ℕ
notched = 10 ∷ 4 ∷ 16 ∷ 4 ∷ 16 ∷ 12 ∷ 12 ∷ 12 ∷ 12 ∷ 8 ∷ 10 ∷ 8 ∷ []

notched_clear : search_of notched Q Q ≡ clear
unfolding search_of reached line_at onward first_line line_of way_line either_way box_line box_low box_high judged balance first_from parts way_left edge_right differ left_on right_on each low_spot lower marks_up marks_down mark
notched_clear = refl

-- the lines, and then what follows
abbrev bottom : List ℕ → List ℕ
bottom rest = 1000000 ∷ 8 ∷ 1000001 ∷ 8 ∷ rest

abbrev right : List ℕ → List ℕ
right rest = 12 ∷ 1000000 ∷ 12 ∷ 1000001 ∷ rest

notched_lines : lines_to notched Q Q 6 ≡ bottom (right (right (right (bottom (bottom [])))))
unfolding lines_to line_at onward first_line line_of way_line either_way box_line box_low box_high first_from parts way_left edge_right differ left_on right_on each
notched_lines = refl

-- ---- Q moving by (4, 4): below it the way of its second corner, above it that of its last, turned round; between two places of a
-- triangle its edge; and an edge that passes a corner

abbrev gone : List ℕ
gone = 14 ∷ 12 ∷ 16 ∷ 12 ∷ 16 ∷ 14 ∷ 14 ∷ 14 ∷ []

below : first_line Q gone (spot 13 9) (spot 16 9) ≡ 6
unfolding first_line line_of way_line either_way box_line box_low box_high first_from parts way_left edge_right differ left_on right_on each
below = refl

above : first_line Q gone (spot 12 13) (spot 10 13) ≡ 11
unfolding first_line line_of way_line either_way box_line box_low box_high first_from parts way_left edge_right differ left_on right_on each
above = refl

abbrev triangle : List ℕ
triangle = 10 ∷ 10 ∷ 14 ∷ 10 ∷ 10 ∷ 14 ∷ []

sloping : first_line triangle triangle (spot 13 12) (spot 12 13) ≡ 14
unfolding first_line line_of way_line either_way box_line box_low box_high first_from parts way_left edge_right differ left_on right_on each
sloping = refl

past_a_corner : first_line Q Q (spot 11 11) (spot 13 9) ≡ 29
unfolding first_line line_of way_line either_way box_line box_low box_high first_from parts way_left edge_right differ left_on right_on each
past_a_corner = refl
