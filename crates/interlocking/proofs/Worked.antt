-- Worked examples, by computation: toward the concave vertex (4, 2) of a notched square, from (4, 20), Q goes one tolerance; a right-angled corner opens by
-- nothing and gives nothing. Assumes nothing.
use mathlib.Core.Path.{◌≡◌, refl}
use mathlib.Core.List.{List, [], ◌∷◌}
use Rattle.std.specs.Prelude.{Some, None}
use lib.Ieee.{Float, add, sub, mul, div, lt, le, eq, neg, of_bits}
use Rattle.scalar.specs.Float.{◌⊘◌, float, f0, f1}
use Rattle.scalar.specs.Scalar.{abs_of, minus_zero, ahead, or_number, smaller_of, larger_of}
use Rattle.square_root.specs.Root.{sqrt_of}
use Rattle.plane.specs.Vector.{point, minus_of, plus_of, dot_of, cross_of, length_of, normalize_of, turn_of, ahead_of}
use Rattle.ring.specs.Ring.{point_at, previous_vertex}
use Rattle.refusals.specs.Refusals.{refuse}
use Rattle.refusals.specs.Bounds.{coordinate, finite, every}
use Rattle.refusals.specs.Answers.{answers, refuses}
use Rattle.ring.specs.Points.{points}
use Rattle.ring.specs.Moved.{moved_of}
use Rattle.refusals.specs.Rows.{of_two_polygons, of_moving}
use Rattle.ring.proofs.Worked.{f2, f4, f8, Q}
use Rattle.overlap.specs.Extent.{wider_of, extent_to, apart_of, box_of}
use Rattle.overlap.specs.Overlap.{edge_of, boxes_apart, overlap_of}
use Rattle.interlocking.specs.Interlocking.{concave_of, opening_of, least_of, fits_of, try_of, candidate_of, or_else, first_found, interlock_of}
use Rattle.interlocking.specs.Calls.{interlock_call}

-- 1e-6
abbrev tolerance : Float
tolerance = float 0x3eb0_c6f7_a0b5_ed8d

-- (4, 20)
abbrev above : Float
above = float 0x4034_0000_0000_0000

-- a square with a notch, and an L
abbrev notched : List Float
notched = f0 ∷ f0 ∷ f8 ∷ f0 ∷ f8 ∷ f8 ∷ f4 ∷ f2 ∷ f0 ∷ f8 ∷ []

abbrev L : List Float
L = f0 ∷ f0 ∷ f8 ∷ f0 ∷ f8 ∷ f4 ∷ f4 ∷ f4 ∷ f4 ∷ f8 ∷ f0 ∷ f8 ∷ []

toward_the_notch : interlock_call notched Q (point f4 above) tolerance ≡ answers (Some (point f4 (float 0x4033_ffff_ef39_085f)))
unfolding of_moving of_two_polygons every coordinate finite interlock_of first_found or_else candidate_of try_of fits_of least_of opening_of concave_of previous_vertex edge_of overlap_of boxes_apart box_of apart_of extent_to wider_of moved_of points plus_of ahead_of point_at minus_of dot_of cross_of turn_of length_of normalize_of smaller_of larger_of or_number ahead minus_zero abs_of sqrt_of add sub mul div lt le eq neg of_bits
toward_the_notch = refl

right_angle : interlock_call L Q (point f4 above) tolerance ≡ answers None
unfolding of_moving of_two_polygons every coordinate finite interlock_of first_found or_else candidate_of least_of opening_of concave_of previous_vertex edge_of box_of extent_to wider_of point_at minus_of dot_of cross_of turn_of smaller_of larger_of or_number ahead minus_zero abs_of sqrt_of add sub mul lt le eq neg of_bits
right_angle = refl

-- 2 of the position comes before 3
nowhere : interlock_call L Q (point (f1 ⊘ f0) f0) f0 ≡ refuses (refuse 2 0)
unfolding of_moving of_two_polygons every coordinate finite div of_bits
nowhere = refl

no_tolerance : interlock_call L Q (point f4 above) f2 ≡ refuses (refuse 3 0)
unfolding of_moving of_two_polygons every coordinate finite lt le eq of_bits
no_tolerance = refl
