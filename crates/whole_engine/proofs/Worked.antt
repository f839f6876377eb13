-- Worked examples, by computation: the corners of the bounds and one unit past them, segments that touch or lie apart on a
-- line, rings, and points of -0.0.
use mathlib.Core.Path.{◌≡◌, refl}
use mathlib.Core.Bool.{true, false}
use mathlib.Core.List.{[], ◌∷◌}
use lib.IntN.{pos, negsuc}
use lib.Ieee.{Float, of_bits}
use Rattle.plane.specs.Vector.{point}
use Rattle.ring.specs.Each.{each}
use Rattle.scalar.specs.Float.{float, f0, f1}
use Rattle.refusals.specs.Answers.{answers, refuses}
use Rattle.refusals.specs.Refusals.{refuse}
use Rattle.segments.specs.Calls.{orientation_call}
use Rattle.segments.specs.Segments.{straddles_of, crosses_of}
use Rattle.simple_polygon.specs.Simple.{adjacent_of}
use Rattle.shifted.specs.Shifted.{up_of}
use Rattle.whole_rules.specs.Segments.{whole_turn, whole_on_segment, whole_touches, whole_intersect}
use Rattle.whole_rules.specs.Simple.{whole_clear_pair, whole_clear_row, whole_simple}
use Rattle.whole_rules.specs.Area.{left_to, right_to, whole_area2}
use Rattle.whole_engine.specs.Rows.{all_in_bounds, of_whole_ring}
use Rattle.whole_engine.specs.Calls.{whole_turn_call, whole_orientation_call, whole_intersect_call, whole_simple_call, whole_area2_call}
use Rattle.whole_engine.specs.Drawn.{DrawnPoint}
use Rattle.whole_engine.proofs.Agrees.{orientation_agrees}

-- ---- points

one_left : whole_turn_call (negsuc 999999) (negsuc 999999) (pos 1000000) (pos 1000000) (pos 0) (pos 1) ≡ answers (pos 1)
unfolding whole_turn all_in_bounds up_of
one_left = refl

past_the_bound : whole_turn_call (pos 0) (pos 0) (pos 1000001) (pos 0) (pos 0) (pos 1) ≡ refuses (refuse 2 0)
unfolding all_in_bounds
past_the_bound = refl

touching : whole_intersect_call (pos 0) (pos 0) (pos 4) (pos 0) (pos 4) (pos 0) (pos 6) (negsuc 1) ≡ answers true
unfolding whole_intersect whole_touches whole_on_segment whole_turn crosses_of straddles_of all_in_bounds up_of
touching = refl

line_apart : whole_intersect_call (pos 0) (pos 0) (pos 4) (pos 0) (pos 5) (pos 0) (pos 8) (pos 0) ≡ answers false
unfolding whole_intersect whole_touches whole_on_segment whole_turn crosses_of straddles_of all_in_bounds up_of
line_apart = refl

-- ---- rings

square : whole_simple_call (pos 0 ∷ pos 0 ∷ pos 2 ∷ pos 0 ∷ pos 2 ∷ pos 2 ∷ pos 0 ∷ pos 2 ∷ []) ≡ answers true
unfolding whole_simple whole_clear_row whole_clear_pair whole_intersect whole_touches whole_on_segment whole_turn crosses_of straddles_of adjacent_of each of_whole_ring all_in_bounds up_of
square = refl

eight : whole_simple_call (pos 0 ∷ pos 0 ∷ pos 2 ∷ pos 2 ∷ pos 2 ∷ pos 0 ∷ pos 0 ∷ pos 2 ∷ []) ≡ answers false
unfolding whole_simple whole_clear_row whole_clear_pair whole_intersect whole_touches whole_on_segment whole_turn crosses_of straddles_of adjacent_of each of_whole_ring all_in_bounds up_of
eight = refl

half_a_point : whole_simple_call (pos 0 ∷ []) ≡ refuses (refuse 1 0)
unfolding of_whole_ring
half_a_point = refl

no_vertex : whole_area2_call [] ≡ answers (pos 0)
unfolding whole_area2 left_to right_to of_whole_ring all_in_bounds
no_vertex = refl

clockwise : whole_area2_call (pos 0 ∷ pos 0 ∷ pos 0 ∷ pos 3 ∷ pos 4 ∷ pos 0 ∷ []) ≡ answers (negsuc 11)
unfolding whole_area2 left_to right_to of_whole_ring all_in_bounds up_of
clockwise = refl

-- ---- -0.0 is the whole number 0

abbrev minus_zero_lem : Float
minus_zero_lem = float 0x8000_0000_0000_0000

drawn : DrawnPoint (point minus_zero_lem f1) (pos 0) (pos 1)
unfolding of_bits
drawn = (refl, refl)

origin : DrawnPoint (point f0 minus_zero_lem) (pos 0) (pos 0)
unfolding of_bits
origin = (refl, refl)

alike : orientation_call (point f0 minus_zero_lem) (point minus_zero_lem f1) (point f0 minus_zero_lem)
    ≡ whole_orientation_call (pos 0) (pos 0) (pos 0) (pos 1) (pos 0) (pos 0)
alike = orientation_agrees _ _ _ _ _ _ _ _ _ origin drawn origin
