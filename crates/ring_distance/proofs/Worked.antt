-- Worked examples, by computation: a point and a segment, two triangles one apart, and a ring with no vertex.
use mathlib.Core.Path.{◌≡◌, refl}
use mathlib.Core.Bool.{false}
use mathlib.Core.List.{[], ◌∷◌}
use lib.Ieee.{Float, inf, add, sub, mul, div, lt, eq, neg, of_bits}
use Rattle.scalar.specs.Float.{float, f0, f1}
use Rattle.scalar.specs.Scalar.{smaller_of, or_number, ahead, minus_zero, clamp_of}
use Rattle.square_root.specs.Root.{sqrt_of}
use Rattle.plane.specs.Vector.{point, minus_of, dot_of}
use Rattle.plane.specs.Segment.{clamped_foot, ring_foot_of, segment_distance_of}
use Rattle.ring.specs.Ring.{point_at}
use Rattle.ring_distance.specs.Distance.{edge_distance, to_ring, one_way, ring_distance_of}

abbrev two : Float
two = float 0x4000_0000_0000_0000

abbrev four : Float
four = float 0x4010_0000_0000_0000

abbrev five : Float
five = float 0x4014_0000_0000_0000

abbrev seven : Float
seven = float 0x401c_0000_0000_0000

to_segment : segment_distance_of (point seven four) (point f0 f0) (point four f0) ≡ five
unfolding segment_distance_of ring_foot_of clamped_foot clamp_of minus_of dot_of sqrt_of add sub mul div lt eq of_bits
to_segment = refl

-- (0,0), (1,0), (0,1) and (2,0), (4,0), (2,2)
triangles : ring_distance_of (f0 ∷ f0 ∷ f1 ∷ f0 ∷ f0 ∷ f1 ∷ []) (two ∷ f0 ∷ four ∷ f0 ∷ two ∷ two ∷ []) ≡ f1
unfolding ring_distance_of one_way to_ring edge_distance point_at segment_distance_of ring_foot_of clamped_foot clamp_of minus_of dot_of sqrt_of smaller_of or_number ahead minus_zero add sub mul div lt eq neg of_bits
triangles = refl

no_vertex : ring_distance_of [] (two ∷ f0 ∷ four ∷ f0 ∷ two ∷ two ∷ []) ≡ inf false
unfolding ring_distance_of one_way to_ring smaller_of or_number ahead minus_zero lt
no_vertex = refl
