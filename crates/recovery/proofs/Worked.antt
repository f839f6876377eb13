-- Worked examples, by computation: Q moved by (6, 1) has two vertices at the distance 2 from S, of which the first counts, so it is drawn from its middle
-- toward (4, 1) by 2 less half the tolerance; Q moved by (4, 1) touches S and stays. Assumes nothing.
use mathlib.Core.Path.{◌≡◌, refl}
use mathlib.Core.List.{List, [], ◌∷◌}
use Rattle.std.specs.Prelude.{Some, None}
use lib.Ieee.{Float, add, sub, mul, div, lt, le, eq, neg, of_bits}
use Rattle.scalar.specs.Float.{◌⊘◌, float, f0, f1}
use Rattle.scalar.specs.Scalar.{abs_of, clamp_of}
use Rattle.square_root.specs.Root.{sqrt_of}
use Rattle.plane.specs.Vector.{point, minus_of, dot_of, length_of, distance_of, normalize_of, ahead_of}
use Rattle.plane.specs.Segment.{clamped_foot, project_of, along_of}
use Rattle.ring.specs.Ring.{point_at}
use Rattle.refusals.specs.Refusals.{refuse}
use Rattle.refusals.specs.Bounds.{coordinate, finite, every}
use Rattle.refusals.specs.Answers.{answers, refuses}
use Rattle.laws.specs.FirstBest.{better, over, nest}
use Rattle.refusals.specs.Rows.{of_two_polygons, of_moving}
use Rattle.ring.proofs.Worked.{f2, f3, f4, f6, f8, S}
use Rattle.centroid.specs.Centroid.{grown_of, moments_to, centroid_of}
use Rattle.recovery.specs.Recovery.{closest_on, closest_of, toward_of, move_to, recover_of}
use Rattle.recovery.specs.Calls.{recover_call}

-- 1e-6
abbrev tolerance : Float
tolerance = float 0x3eb0_c6f7_a0b5_ed8d

-- Q moved by (6, 1), and by (4, 1)
abbrev away : List Float
away = f6 ∷ f1 ∷ f8 ∷ f1 ∷ f8 ∷ f3 ∷ f6 ∷ f3 ∷ []

abbrev beside : List Float
beside = f4 ∷ f1 ∷ f6 ∷ f1 ∷ f6 ∷ f3 ∷ f4 ∷ f3 ∷ []

drawn : recover_call S away (point f6 f1) tolerance ≡ answers (Some (point (float 0x4010_6918_dafa_053d) (float 0x3fd7_85d9_e535_7144)))
unfolding of_moving of_two_polygons every coordinate finite recover_of move_to toward_of closest_of nest over better closest_on centroid_of moments_to grown_of ahead_of project_of clamped_foot along_of clamp_of point_at minus_of dot_of length_of distance_of normalize_of abs_of sqrt_of add sub mul div lt le eq neg of_bits
drawn = refl

stays : recover_call S beside (point f4 f1) tolerance ≡ answers None
unfolding of_moving of_two_polygons every coordinate finite recover_of move_to closest_of nest over better closest_on project_of clamped_foot along_of clamp_of point_at minus_of dot_of length_of distance_of abs_of sqrt_of add sub mul div lt le eq neg of_bits
stays = refl

-- 2 of the position comes before 3
nowhere : recover_call S away (point (f1 ⊘ f0) f0) f0 ≡ refuses (refuse 2 0)
unfolding of_moving of_two_polygons every coordinate finite div of_bits
nowhere = refl

no_tolerance : recover_call S away (point f6 f1) f2 ≡ refuses (refuse 3 0)
unfolding of_moving of_two_polygons every coordinate finite lt le eq of_bits
no_tolerance = refl
