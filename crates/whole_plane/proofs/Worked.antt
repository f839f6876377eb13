-- Worked examples: points in common, given by their fractions and computed, with what the call then answers by the theorem; and,
-- by the theorem from the computed answer, segments that have none. A square is simple; of a figure eight two edges meet.
use Prim.Native.Nat.{ℕ}
use native.Mathlib.Omega.{arith}
use mathlib.Core.Path.{◌≡◌, refl, sym, ◌∙◌}
use mathlib.Core.Bool.{true, false}
use mathlib.Core.List.{List, [], ◌∷◌}
use lib.Dec.{lit<, lit≤}
use lib.IntN.{ℤ, pos, negsuc}
use Rattle.refusals.specs.Answers.{answers}
use Rattle.ring.specs.Each.{each}
use Rattle.segments.specs.Segments.{straddles_of, crosses_of}
use Rattle.simple_polygon.specs.Simple.{adjacent_of}
use Rattle.shifted.specs.Shifted.{up_of}
use Rattle.whole_rules.specs.Segments.{whole_turn, whole_on_segment, whole_touches, whole_intersect}
use Rattle.whole_rules.specs.Simple.{whole_clear_pair, whole_clear_row, whole_simple}
use Rattle.whole_engine.specs.Rows.{all_in_bounds, of_whole_ring}
use Rattle.whole_engine.specs.Calls.{whole_intersect_call}
use Rattle.whole_plane.specs.Plane.{whole_point, Common}
use Rattle.whole_plane.specs.Rings.{NotNeighbours, SimpleRing, point_in}
use Rattle.whole_plane.proofs.Calls.{intersect_call_exactly, simple_call_exactly}

-- ---- points in common

-- (-1, -1) (2, 2) and (-1, 1) (3, -1) cross at (1/3, 1/3), 4/9 of the way along the one and 3/9 along the other
crossing : Common (whole_point (negsuc 0) (negsuc 0)) (whole_point (pos 2) (pos 2))
    (whole_point (negsuc 0) (pos 1)) (whole_point (pos 3) (negsuc 0))
crossing = record { n = 9; s = 4; t = 3; above = lit< tt; s_most = lit≤ tt; t_most = lit≤ tt; across = refl; upward = refl }

crossing_told : whole_intersect_call (negsuc 0) (negsuc 0) (pos 2) (pos 2) (negsuc 0) (pos 1) (pos 3) (negsuc 0) ≡ answers true
unfolding all_in_bounds
crossing_told = (intersect_call_exactly _ _ _ _ _ _ _ _).1 (refl, crossing)

-- (1, 0) (2, 3) stands on (0, 0) (4, 0), a quarter of the way along
standing : Common (whole_point (pos 0) (pos 0)) (whole_point (pos 4) (pos 0)) (whole_point (pos 1) (pos 0)) (whole_point (pos 2) (pos 3))
standing = record { n = 4; s = 1; t = 0; above = lit< tt; s_most = lit≤ tt; t_most = lit≤ tt; across = refl; upward = refl }

standing_told : whole_intersect_call (pos 0) (pos 0) (pos 4) (pos 0) (pos 1) (pos 0) (pos 2) (pos 3) ≡ answers true
unfolding all_in_bounds
standing_told = (intersect_call_exactly _ _ _ _ _ _ _ _).1 (refl, standing)

-- the point (1, -1), as a segment, two thirds of the way along (-3, 1) (3, -2)
point_on : Common (whole_point (pos 1) (negsuc 0)) (whole_point (pos 1) (negsuc 0))
    (whole_point (negsuc 2) (pos 1)) (whole_point (pos 3) (negsuc 1))
point_on = record { n = 3; s = 0; t = 2; above = lit< tt; s_most = lit≤ tt; t_most = lit≤ tt; across = refl; upward = refl }

point_told : whole_intersect_call (pos 1) (negsuc 0) (pos 1) (negsuc 0) (negsuc 2) (pos 1) (pos 3) (negsuc 1) ≡ answers true
unfolding all_in_bounds
point_told = (intersect_call_exactly _ _ _ _ _ _ _ _).1 (refl, point_on)

-- two points that are one, in a corner of the bounds
one_point : Common (whole_point (negsuc 999999) (pos 1000000)) (whole_point (negsuc 999999) (pos 1000000))
    (whole_point (negsuc 999999) (pos 1000000)) (whole_point (negsuc 999999) (pos 1000000))
one_point = record { n = 1; s = 0; t = 0; above = lit< tt; s_most = lit≤ tt; t_most = lit≤ tt; across = refl; upward = refl }

-- ---- none

never : answers true ≡ answers false → ⊥
never h = let z : ◌≡◌ {A = ℕ} 0 1 = cc in omega arith

-- on one line, one unit apart
line_apart : Common (whole_point (pos 0) (pos 0)) (whole_point (pos 4) (pos 0)) (whole_point (pos 5) (pos 0)) (whole_point (pos 8) (pos 0)) → ⊥
unfolding whole_intersect whole_touches whole_on_segment whole_turn crosses_of straddles_of all_in_bounds up_of
line_apart h = never (sym ((intersect_call_exactly _ _ _ _ _ _ _ _).1 (refl, h)) ∙ refl)

-- two points one unit apart
points_apart : Common (whole_point (pos 0) (pos 0)) (whole_point (pos 0) (pos 0))
    (whole_point (pos 0) (pos 1)) (whole_point (pos 0) (pos 1)) → ⊥
unfolding whole_intersect whole_touches whole_on_segment whole_turn crosses_of straddles_of all_in_bounds up_of
points_apart h = never (sym ((intersect_call_exactly _ _ _ _ _ _ _ _).1 (refl, h)) ∙ refl)

-- ---- rings

abbrev square : List ℤ
square = pos 0 ∷ pos 0 ∷ pos 2 ∷ pos 0 ∷ pos 2 ∷ pos 2 ∷ pos 0 ∷ pos 2 ∷ []

abbrev eight : List ℤ
eight = pos 0 ∷ pos 0 ∷ pos 2 ∷ pos 2 ∷ pos 2 ∷ pos 0 ∷ pos 0 ∷ pos 2 ∷ []

square_is : SimpleRing (point_in square) 4
unfolding whole_simple whole_clear_row whole_clear_pair whole_intersect whole_touches whole_on_segment whole_turn crosses_of straddles_of adjacent_of each of_whole_ring all_in_bounds up_of
square_is = ((simple_call_exactly square).0 refl).1

-- the first and the third edge are not neighbours, and meet in the middle
not_neighbours : NotNeighbours 4 0 2
not_neighbours = record { two = λ e. omega arith; not_after = λ e. omega arith; not_before = λ e. omega arith }

middle : Common (point_in eight 0) (point_in eight 1) (point_in eight 2) (point_in eight 3)
middle = record { n = 2; s = 1; t = 1; above = lit< tt; s_most = lit≤ tt; t_most = lit≤ tt; across = refl; upward = refl }

eight_is_not : SimpleRing (point_in eight) 4 → ⊥
eight_is_not h = h.clear 0 2 (lit< tt) (lit< tt) not_neighbours middle
