-- Worked examples, by computation: a crossing, a touching end, a gap, and a turn of just 1e-9.
use mathlib.Core.Path.{◌≡◌, refl}
use mathlib.Core.Bool.{true, false}
use lib.IntN.{pos, negsuc}
use lib.Ieee.{Float, add, sub, mul, lt, le, eq, neg, of_bits}
use Rattle.scalar.specs.Float.{float, f0, f1}
use Rattle.scalar.specs.Scalar.{smaller_of, larger_of, or_number, ahead, minus_zero}
use Rattle.plane.specs.Vector.{point, minus_of, cross_of, turn_of}
use Rattle.segments.specs.Segments.{eps, sign_of, orientation_of, between_of, on_segment_of, straddles_of, crosses_of, touches_of, intersect_of}

abbrev two : Float
two = float 0x4000_0000_0000_0000

counter_clockwise : orientation_of (point f0 f0) (point two f0) (point f0 two) ≡ pos 1
unfolding orientation_of sign_of turn_of cross_of minus_of add sub mul lt neg of_bits
counter_clockwise = refl

at_the_threshold : orientation_of (point f0 f0) (point f1 f0) (point f0 eps) ≡ pos 0
unfolding orientation_of sign_of turn_of cross_of minus_of add sub mul lt neg of_bits
at_the_threshold = refl

past_the_threshold : orientation_of (point f0 f0) (point f0 (float 0x3e11_2e0b_e826_d696)) (point f1 f0) ≡ negsuc 0
unfolding orientation_of sign_of turn_of cross_of minus_of add sub mul lt neg of_bits
past_the_threshold = refl

crossing : intersect_of (point f0 f0) (point two two) (point f0 two) (point two f0) ≡ true
unfolding intersect_of touches_of crosses_of straddles_of orientation_of sign_of turn_of cross_of minus_of add sub mul lt neg of_bits
crossing = refl

touching : intersect_of (point f0 f0) (point two f0) (point f1 f0) (point f1 two) ≡ true
unfolding intersect_of touches_of crosses_of straddles_of on_segment_of between_of orientation_of sign_of turn_of cross_of minus_of smaller_of larger_of or_number ahead minus_zero add sub mul lt le eq neg of_bits
touching = refl

apart : intersect_of (point f0 f0) (point two f0) (point f0 f1) (point two f1) ≡ false
unfolding intersect_of touches_of crosses_of straddles_of on_segment_of between_of orientation_of sign_of turn_of cross_of minus_of smaller_of larger_of or_number ahead minus_zero add sub mul lt le eq neg of_bits
apart = refl
