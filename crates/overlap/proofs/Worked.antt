-- Worked examples, by computation: Q that touches S from below overlaps it; Q one unit to the left of S does not, by the boxes; neither does a triangle
-- beyond the long side of another, by the normal to that side. Assumes nothing.
use mathlib.Core.Path.{◌≡◌, refl}
use mathlib.Core.Bool.{true, false}
use mathlib.Core.List.{List, [], ◌∷◌}
use lib.Ieee.{Float, add, sub, mul, div, lt, le, eq, neg, of_bits}
use Rattle.scalar.specs.Float.{float, f0, f1, f1e_6}
use Rattle.scalar.specs.Scalar.{abs_of, minus_zero, ahead, or_number, smaller_of, larger_of}
use Rattle.square_root.specs.Root.{sqrt_of}
use Rattle.plane.specs.Vector.{minus_of, dot_of, length_of, normalize_of}
use Rattle.ring.specs.Ring.{point_at}
use Rattle.ring.specs.Each.{each}
use Rattle.refusals.specs.Rows.{of_two_polygons, of_touching}
use Rattle.refusals.specs.Refusals.{refuse}
use Rattle.refusals.specs.Bounds.{coordinate, every}
use Rattle.refusals.specs.Answers.{answers, refuses}
use Rattle.ring.proofs.Worked.{f2, f3, f4, S}
use Rattle.overlap.specs.Extent.{wider_of, extent_to, apart_of, box_of, shadow_of}
use Rattle.overlap.specs.Overlap.{edge_of, axis_of, no_axis, meets_on, meets_along, boxes_apart, overlap_of}
use Rattle.overlap.specs.Calls.{overlap_call, overlap_with_call}

abbrev minus2 : Float
minus2 = float 0xc000_0000_0000_0000

-- Q moved by (0, -2), and by (-3, 1)
abbrev below : List Float
below = f0 ∷ minus2 ∷ f2 ∷ minus2 ∷ f2 ∷ f0 ∷ f0 ∷ f0 ∷ []

abbrev beside : List Float
beside = float 0xc008_0000_0000_0000 ∷ f1 ∷ float 0xbff0_0000_0000_0000 ∷ f1 ∷ float 0xbff0_0000_0000_0000 ∷ f3 ∷ float 0xc008_0000_0000_0000 ∷ f3 ∷ []

abbrev triangle : List Float
triangle = f0 ∷ f0 ∷ f4 ∷ f0 ∷ f0 ∷ f4 ∷ []

abbrev beyond : List Float
beyond = f4 ∷ f4 ∷ f3 ∷ f4 ∷ f4 ∷ f3 ∷ []

touching : overlap_call S below ≡ answers true
unfolding of_two_polygons every coordinate overlap_of boxes_apart meets_along each meets_on no_axis axis_of edge_of box_of shadow_of apart_of extent_to wider_of point_at minus_of dot_of length_of normalize_of smaller_of larger_of or_number ahead minus_zero abs_of sqrt_of add sub mul div lt le eq neg of_bits
touching = refl

boxes_apart_lem : overlap_call S beside ≡ answers false
unfolding of_two_polygons every coordinate overlap_of boxes_apart box_of apart_of extent_to wider_of point_at smaller_of larger_of or_number ahead minus_zero add lt le eq neg of_bits
boxes_apart_lem = refl

-- a tolerance of one reaches over the gap
within_one : overlap_with_call S beside f1 ≡ answers true
unfolding of_touching of_two_polygons every coordinate overlap_of boxes_apart meets_along each meets_on no_axis axis_of edge_of box_of shadow_of apart_of extent_to wider_of point_at minus_of dot_of length_of normalize_of smaller_of larger_of or_number ahead minus_zero abs_of sqrt_of add sub mul div lt le eq neg of_bits
within_one = refl

long_side : overlap_call triangle beyond ≡ answers false
unfolding of_two_polygons every coordinate overlap_of boxes_apart meets_along each meets_on no_axis axis_of edge_of box_of shadow_of apart_of extent_to wider_of point_at minus_of dot_of length_of normalize_of smaller_of larger_of or_number ahead minus_zero abs_of sqrt_of add sub mul div lt le eq neg of_bits
long_side = refl

boxes_meet : boxes_apart triangle beyond f1e_6 ≡ false
unfolding boxes_apart box_of apart_of extent_to wider_of point_at smaller_of larger_of or_number ahead minus_zero add lt eq neg of_bits
boxes_meet = refl

two_vertices : overlap_call S (f0 ∷ f0 ∷ f1 ∷ f1 ∷ []) ≡ refuses (refuse 8 1)
unfolding of_two_polygons
two_vertices = refl

no_tolerance : overlap_with_call S below f0 ≡ refuses (refuse 3 0)
unfolding of_touching of_two_polygons every coordinate lt of_bits
no_tolerance = refl
