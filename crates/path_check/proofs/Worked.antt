-- Worked examples, by computation: paths of Q along the lower edge of S, with the tolerance 1e-6. (0, -2), (1, -2), (2, -2) is accepted. At (1, -3) there is
-- no contact. From (-2, -2) by 6 to the right a vertex runs into S's left edge; from (4, -2) back to (0, -2), which only the closing leg does, into its right
-- edge. Assumes nothing.
use mathlib.Core.Path.{◌≡◌, refl}
use Rattle.std.specs.Prelude.{Option, None, Some}
use mathlib.Core.List.{List, [], ◌∷◌}
use lib.Ieee.{Float, add, sub, mul, div, lt, le, eq, neg, of_bits}
use Rattle.scalar.specs.Float.{float, f0, f1}
use Rattle.scalar.specs.Scalar.{abs_of, minus_zero, ahead, or_number, smaller_of, larger_of, clamp_of}
use Rattle.square_root.specs.Root.{sqrt_of}
use Rattle.plane.specs.Vector.{minus_of, plus_of, dot_of, cross_of, length_of, distance_of, parallel_of, ahead_of}
use Rattle.plane.specs.Segment.{clamped_foot, project_of, along_of, to_segment_of, near_segment_of}
use Rattle.ring.specs.Ring.{point_at}
use Rattle.ring.specs.Points.{points}
use Rattle.ring.specs.Moved.{moved_of}
use Rattle.ring.proofs.Worked.{f2, f4, S, Q}
use Rattle.laws.specs.FirstBest.{better, over, nest}
use Rattle.pairs.specs.Pairs as pairs
use Rattle.contacts.specs.Touching.{edge_end, edges_of, edges_touch, touches_by, touching}
use Rattle.contacts.specs.Contacts.{picks}
use Rattle.collision.specs.Ray.{ray_within, ray_of, edge_ray}
use Rattle.collision.specs.Hit.{counted_of, nearer}
use Rattle.collision.specs.Check.{hit_of, scan_of, back_of, both_of, sweep_of, collision_of}
use Rattle.path_check.specs.Path.{leg_of, leg_by, fault_by, fault_at, or_else, first_fault, path_fault}
use Rattle.path_check.specs.declared.Fault.{Fault}
use Rattle.path_check.specs.declared.Fault.TheVariants.{Point, Leg}

-- -2.0, -3.0
abbrev m2 : Float
m2 = neg f2

abbrev m3 : Float
m3 = float 0xc008_0000_0000_0000

-- 1e-6
abbrev tolerance : Float
tolerance = float 0x3eb0_c6f7_a0b5_ed8d

abbrev of : List Float → Option Fault
of path = path_fault S Q tolerance path

passes : of (f0 ∷ m2 ∷ f1 ∷ m2 ∷ f2 ∷ m2 ∷ []) ≡ None
unfolding path_fault first_fault or_else fault_at fault_by leg_by leg_of moved_of points picks touching touches_by edges_of edge_end edges_touch pairs.pair_of point_at near_segment_of to_segment_of along_of project_of clamped_foot clamp_of parallel_of abs_of cross_of minus_of plus_of dot_of length_of distance_of sqrt_of over better ahead_of smaller_of larger_of or_number ahead minus_zero collision_of sweep_of both_of back_of scan_of hit_of nest nearer counted_of edge_ray ray_of ray_within add sub mul div lt le eq neg of_bits
passes = refl

loose : of (f0 ∷ m2 ∷ f1 ∷ m3 ∷ f2 ∷ m2 ∷ []) ≡ Some (Point 1)
unfolding path_fault first_fault or_else fault_at fault_by leg_by leg_of moved_of points picks touching touches_by edges_of edge_end edges_touch pairs.pair_of point_at near_segment_of to_segment_of along_of project_of clamped_foot clamp_of parallel_of abs_of cross_of minus_of plus_of dot_of length_of distance_of sqrt_of over better ahead_of smaller_of larger_of or_number ahead minus_zero collision_of sweep_of both_of back_of scan_of hit_of nest nearer counted_of edge_ray ray_of ray_within add sub mul div lt le eq neg of_bits
loose = refl

runs_into : of (m2 ∷ m2 ∷ f4 ∷ m2 ∷ f4 ∷ f4 ∷ []) ≡ Some (Leg 0)
unfolding path_fault first_fault or_else fault_at fault_by leg_by leg_of moved_of points picks touching touches_by edges_of edge_end edges_touch pairs.pair_of point_at near_segment_of to_segment_of along_of project_of clamped_foot clamp_of parallel_of abs_of cross_of minus_of plus_of dot_of length_of distance_of sqrt_of over better ahead_of smaller_of larger_of or_number ahead minus_zero collision_of sweep_of both_of back_of scan_of hit_of nest nearer counted_of edge_ray ray_of ray_within add sub mul div lt le eq neg of_bits
runs_into = refl

closing : of (f0 ∷ m2 ∷ f2 ∷ m2 ∷ f4 ∷ m2 ∷ []) ≡ Some (Leg 2)
unfolding path_fault first_fault or_else fault_at fault_by leg_by leg_of moved_of points picks touching touches_by edges_of edge_end edges_touch pairs.pair_of point_at near_segment_of to_segment_of along_of project_of clamped_foot clamp_of parallel_of abs_of cross_of minus_of plus_of dot_of length_of distance_of sqrt_of over better ahead_of smaller_of larger_of or_number ahead minus_zero collision_of sweep_of both_of back_of scan_of hit_of nest nearer counted_of edge_ray ray_of ray_within add sub mul div lt le eq neg of_bits
closing = refl
