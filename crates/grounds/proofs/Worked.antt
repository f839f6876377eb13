-- Worked examples of the grounds, by computation: triangles that move against a triangle. Assumes nothing.
use mathlib.Core.Path.{◌≡◌, refl}
use mathlib.Core.List.{List, [], ◌∷◌}
use lib.Ieee.{Float, add, sub, mul, div, lt, le, eq, neg, of_bits}
use Rattle.std.specs.Prelude.{Some, None}
use Rattle.scalar.specs.Float.{◌⊘◌, float, f0, f0·5, f1, f2, f1e_6}
use Rattle.scalar.specs.Scalar.{abs_of, minus_zero, ahead, or_number, larger_of}
use Rattle.square_root.specs.Root.{sqrt_of}
use Rattle.plane.specs.Vector.{point, minus_of, dot_of, cross_of, length_of}
use Rattle.ring.specs.Ring.{point_at}
use Rattle.refusals.specs.Refusals.{refuse}
use Rattle.refusals.specs.Bounds.{coordinate, finite, every}
use Rattle.refusals.specs.Rows.{of_two_polygons, of_moving}
use Rattle.refusals.specs.Answers.{answers, refuses}
use Rattle.laws.specs.FirstBest.{better, over, nest}
use Rattle.laws.specs.Turns.{tally}
use Rattle.pairs.specs.Pairs.{pair_of}
use Rattle.collision.specs.Ray.{ray_within, ray_of, edge_ray}
use Rattle.collision.specs.Hit.{counted_of, nearer}
use Rattle.collision.specs.Check.{hit_of, scan_of, back_of, both_of, sweep_of}
use Rattle.collision.specs.Nearest.{ray_at}
use Rattle.grounds.specs.Classes.{hit_is, how_many}
use Rattle.grounds.specs.Grounds.{ground_by}
use Rattle.grounds.specs.Explanation.{others_at, tally_of, explanation_of}
use Rattle.grounds.specs.Calls.{explain_call}

abbrev four : Float
four = float 0x4010_0000_0000_0000

abbrev ten : Float
ten = float 0x4024_0000_0000_0000

abbrev three_halves : Float
three_halves = float 0x3ff8_0000_0000_0000

abbrev minus_one : Float
minus_one = float 0xbff0_0000_0000_0000

abbrev minus_two : Float
minus_two = float 0xc000_0000_0000_0000

-- the stationary triangle: (0, 0), (4, 0), (0, 4)
abbrev T : List Float
T = f0 ∷ f0 ∷ four ∷ f0 ∷ f0 ∷ four ∷ []

-- 1 to its left: (-2, 1), (-1, 1), (-1, 2)
abbrev aside : List Float
aside = minus_two ∷ f1 ∷ minus_one ∷ f1 ∷ minus_one ∷ f2 ∷ []

-- at its left edge: (-1, 1), (0, 1), (0, 2)
abbrev touching : List Float
touching = minus_one ∷ f1 ∷ f0 ∷ f1 ∷ f0 ∷ f2 ∷ []

-- inside, at 1, 0.75 and 0.5 from its long edge: (1.75, 1.25), (2, 1.25), (2, 1.5)
abbrev inside : List Float
inside =
    float 0x3ffc_0000_0000_0000 ∷ float 0x3ff4_0000_0000_0000 ∷ f2 ∷ float 0x3ff4_0000_0000_0000 ∷ f2 ∷ three_halves ∷ []

-- 0: vertex 1 runs into edge 2 at the distance 1, and so does vertex 2; four hits lie behind
hits : explain_call T aside (point ten f0) f1e_6
    ≡ answers (record { ground = 0; hit = Some (record { distance = f1; kind = 0; stationary = 2; orbiting = 1 }); others = 1; near = 0; between = 6; far = 0 })
unfolding of_moving of_two_polygons every coordinate finite explanation_of tally_of others_at ground_by how_many tally hit_is pair_of ray_at sweep_of both_of back_of scan_of hit_of nest over better nearer counted_of edge_ray ray_of ray_within larger_of or_number ahead minus_zero abs_of point_at minus_of cross_of length_of dot_of sqrt_of add sub mul div lt le eq neg of_bits
hits = refl

-- 1: of a move of 0.5 with the tolerance 1 no pair is scanned
short : explain_call T touching (point f0·5 f0) f1
    ≡ answers (record { ground = 1; hit = None; others = 0; near = 0; between = 0; far = 0 })
unfolding of_moving of_two_polygons every coordinate finite explanation_of length_of dot_of sqrt_of add mul lt le eq of_bits
short = refl

-- 2: it passes by
never : explain_call T aside (point f0 ten) f1e_6
    ≡ answers (record { ground = 2; hit = None; others = 0; near = 0; between = 0; far = 0 })
unfolding of_moving of_two_polygons every coordinate finite explanation_of tally_of others_at ground_by how_many tally hit_is pair_of ray_at sweep_of both_of back_of scan_of hit_of nest over better nearer counted_of edge_ray ray_of ray_within larger_of or_number ahead minus_zero abs_of point_at minus_of cross_of length_of dot_of sqrt_of add sub mul div lt le eq neg of_bits
never = refl

-- 3: it leaves the edge at which it is
near : explain_call T touching (point minus_two f0) f1e_6
    ≡ answers (record { ground = 3; hit = None; others = 0; near = 2; between = 0; far = 0 })
unfolding of_moving of_two_polygons every coordinate finite explanation_of tally_of others_at ground_by how_many tally hit_is pair_of ray_at sweep_of both_of back_of scan_of hit_of nest over better nearer counted_of edge_ray ray_of ray_within larger_of or_number ahead minus_zero abs_of point_at minus_of cross_of length_of dot_of sqrt_of add sub mul div lt le eq neg of_bits
near = refl

-- 4: the first hits lie at the move's length
far : explain_call T aside (point f1 f0) f1e_6
    ≡ answers (record { ground = 4; hit = None; others = 0; near = 0; between = 0; far = 6 })
unfolding of_moving of_two_polygons every coordinate finite explanation_of tally_of others_at ground_by how_many tally hit_is pair_of ray_at sweep_of both_of back_of scan_of hit_of nest over better nearer counted_of edge_ray ray_of ray_within larger_of or_number ahead minus_zero abs_of point_at minus_of cross_of length_of dot_of sqrt_of add sub mul div lt le eq neg of_bits
far = refl

-- 5: two vertices are at one edge, and the others hit at the move's length or beyond
on_both_sides : explain_call T touching (point f1 f0) f1e_6
    ≡ answers (record { ground = 5; hit = None; others = 0; near = 2; between = 0; far = 4 })
unfolding of_moving of_two_polygons every coordinate finite explanation_of tally_of others_at ground_by how_many tally hit_is pair_of ray_at sweep_of both_of back_of scan_of hit_of nest over better nearer counted_of edge_ray ray_of ray_within larger_of or_number ahead minus_zero abs_of point_at minus_of cross_of length_of dot_of sqrt_of add sub mul div lt le eq neg of_bits
on_both_sides = refl

-- 3: the length 1.5 is below two tolerances, so that the three hits are at most the tolerance 1 and at least the limit 0.5: they are too near
near_before_far : explain_call T inside (point three_halves f0) f1
    ≡ answers (record { ground = 3; hit = None; others = 0; near = 3; between = 0; far = 0 })
unfolding of_moving of_two_polygons every coordinate finite explanation_of tally_of others_at ground_by how_many tally hit_is pair_of ray_at sweep_of both_of back_of scan_of hit_of nest over better nearer counted_of edge_ray ray_of ray_within larger_of or_number ahead minus_zero abs_of point_at minus_of cross_of length_of dot_of sqrt_of add sub mul div lt le eq neg of_bits
near_before_far = refl

-- 2 of the move comes before 3
move_first : explain_call T aside (point (f1 ⊘ f0) f0) f0 ≡ refuses (refuse 2 0)
unfolding of_moving of_two_polygons every coordinate finite div of_bits
move_first = refl

no_tolerance : explain_call T aside (point ten f0) f0 ≡ refuses (refuse 3 0)
unfolding of_moving of_two_polygons every coordinate finite lt of_bits
no_tolerance = refl
