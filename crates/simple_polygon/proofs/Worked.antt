-- Worked examples, by computation: a square is simple, a figure eight is not, nor are two vertices.
use mathlib.Core.Path.{◌≡◌, refl}
use mathlib.Core.Bool.{true, false}
use mathlib.Core.List.{[], ◌∷◌}
use lib.Ieee.{Float, add, sub, mul, lt, le, neg, of_bits}
use Rattle.scalar.specs.Float.{float, f0}
use Rattle.scalar.specs.Scalar.{smaller_of, larger_of, or_number, ahead, minus_zero}
use Rattle.plane.specs.Vector.{minus_of, cross_of, turn_of}
use Rattle.ring.specs.Each.{each}
use Rattle.ring.specs.Ring.{point_at}
use Rattle.segments.specs.Segments.{sign_of, orientation_of, between_of, on_segment_of, straddles_of, crosses_of, touches_of, intersect_of}
use Rattle.simple_polygon.specs.Simple.{adjacent_of, clear_pair, clear_row, is_simple}

abbrev two : Float
two = float 0x4000_0000_0000_0000

square : is_simple (f0 ∷ f0 ∷ two ∷ f0 ∷ two ∷ two ∷ f0 ∷ two ∷ []) ≡ true
unfolding is_simple clear_row clear_pair adjacent_of each intersect_of touches_of crosses_of straddles_of on_segment_of between_of orientation_of sign_of point_at turn_of cross_of minus_of smaller_of larger_of or_number ahead minus_zero add sub mul lt le neg of_bits
square = refl

eight : is_simple (f0 ∷ f0 ∷ two ∷ two ∷ two ∷ f0 ∷ f0 ∷ two ∷ []) ≡ false
unfolding is_simple clear_row clear_pair adjacent_of each intersect_of touches_of crosses_of straddles_of on_segment_of between_of orientation_of sign_of point_at turn_of cross_of minus_of smaller_of larger_of or_number ahead minus_zero add sub mul lt le neg of_bits
eight = refl

two_vertices : is_simple (f0 ∷ f0 ∷ two ∷ two ∷ []) ≡ false
unfolding is_simple
two_vertices = refl
