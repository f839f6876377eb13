-- Worked examples, by computation: Q moved by (-5, 1) against S, with the tolerance 1e-6. The move (10, 0) hits at the distance 3, orbiting's vertex 1
-- against stationary's edge 3; its vertex 2 ties and is later. The moves (3, 0) and (0, 0) hit nothing. Assumes nothing.
use mathlib.Core.Path.{◌≡◌, refl}
use mathlib.Core.List.{List, [], ◌∷◌}
use lib.Ieee.{Float, add, sub, mul, div, lt, le, eq, neg, of_bits}
use Rattle.std.specs.Prelude.{Some, None}
use Rattle.scalar.specs.Float.{◌⊘◌, float, f0, f1}
use Rattle.scalar.specs.Scalar.{abs_of, minus_zero, ahead, or_number, larger_of}
use Rattle.square_root.specs.Root.{sqrt_of}
use Rattle.plane.specs.Vector.{point, minus_of, dot_of, cross_of, length_of}
use Rattle.ring.specs.Ring.{point_at}
use Rattle.refusals.specs.Refusals.{refuse}
use Rattle.refusals.specs.Bounds.{coordinate, finite, every}
use Rattle.refusals.specs.Rows.{of_two_polygons, of_moving}
use Rattle.refusals.specs.Answers.{answers, refuses}
use Rattle.laws.specs.FirstBest.{better, over, nest}
use Rattle.pairs.specs.Pairs.{pair, pair_of}
use Rattle.collision.specs.Ray.{ray_within, ray_of, edge_ray}
use Rattle.collision.specs.Hit.{counted_of, nearer}
use Rattle.collision.specs.Check.{hit_of, scan_of, back_of, both_of, sweep_of, collision_of}
use Rattle.collision.specs.Nearest.{pair_no, ray_at}
use Rattle.collision.specs.Calls.{collision_call}
use Rattle.std.specs.Prelude.{Some}

abbrev three : Float
three = float 0x4008_0000_0000_0000

abbrev four : Float
four = float 0x4010_0000_0000_0000

abbrev ten : Float
ten = float 0x4024_0000_0000_0000

-- 1e-6
abbrev tolerance : Float
tolerance = float 0x3eb0_c6f7_a0b5_ed8d

abbrev S : List Float
S = f0 ∷ f0 ∷ four ∷ f0 ∷ four ∷ four ∷ f0 ∷ four ∷ []

-- (-5, 1), (-3, 1), (-3, 3), (-5, 3)
abbrev Q : List Float
Q =
    float 0xc014_0000_0000_0000 ∷ f1 ∷ float 0xc008_0000_0000_0000 ∷ f1 ∷ float 0xc008_0000_0000_0000 ∷ three ∷ float 0xc014_0000_0000_0000 ∷ three ∷ []

hits : collision_call S Q (point ten f0) tolerance ≡ answers (Some (record { distance = three; kind = 0; stationary = 3; orbiting = 1 }))
unfolding of_moving of_two_polygons every coordinate finite collision_of sweep_of both_of back_of scan_of hit_of nest over better nearer counted_of edge_ray ray_of ray_within larger_of or_number ahead minus_zero abs_of point_at minus_of cross_of length_of dot_of sqrt_of add sub mul div lt le eq neg of_bits
hits = refl

-- the pair of the tie, four pairs later
ties : ray_at S Q (point ten f0) tolerance (pair_no S Q 11) ≡ Some three
unfolding pair_of ray_at sweep_of back_of edge_ray ray_of ray_within larger_of or_number ahead minus_zero abs_of point_at minus_of cross_of length_of dot_of sqrt_of add sub mul div lt le eq neg of_bits
ties = refl

tie_is : pair_no S Q 11 ≡ pair 0 3 2
unfolding pair_of
tie_is = refl

short_of_it : collision_call S Q (point three f0) tolerance ≡ answers None
unfolding of_moving of_two_polygons every coordinate finite collision_of sweep_of both_of back_of scan_of hit_of nest over better nearer counted_of edge_ray ray_of ray_within larger_of or_number ahead minus_zero abs_of point_at minus_of cross_of length_of dot_of sqrt_of add sub mul div lt le eq neg of_bits
short_of_it = refl

no_move : collision_call S Q (point f0 f0) tolerance ≡ answers None
unfolding of_moving of_two_polygons every coordinate finite collision_of length_of dot_of sqrt_of add mul lt le eq of_bits
no_move = refl

-- 2 of the move comes before 3
move_first : collision_call S Q (point (f1 ⊘ f0) f0) f0 ≡ refuses (refuse 2 0)
unfolding of_moving of_two_polygons every coordinate finite div of_bits
move_first = refl

no_tolerance : collision_call S Q (point three f0) f0 ≡ refuses (refuse 3 0)
unfolding of_moving of_two_polygons every coordinate finite lt of_bits
no_tolerance = refl
