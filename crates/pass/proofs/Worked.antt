-- A worked example, by computation: the first pass of docs/SCOPE.md's S and Q. From the start (0, -2), where six contacts
-- give twelve vectors, Q slides to the right for 2, hits nothing, and its position (2, -2) is stored. Assumes nothing.
use mathlib.Core.Path.{◌≡◌, refl}
use Rattle.std.specs.Prelude.{None, Some}
use mathlib.Core.List.{[], ◌∷◌}
use lib.Ieee.{Float, add, sub, mul, div, lt, le, eq, neg, of_bits}
use Rattle.scalar.specs.Float.{float, f0, f1}
use Rattle.scalar.specs.Scalar.{abs_of, minus_zero, ahead, or_number, smaller_of, larger_of, clamp_of}
use Rattle.square_root.specs.Root.{sqrt_of}
use Rattle.plane.specs.Vector.{point, minus_of, plus_of, dot_of, cross_of, length_of, distance_of, normalize_of, parallel_of, ahead_of}
use Rattle.plane.specs.Segment.{clamped_foot, project_of, along_of, to_segment_of, near_segment_of}
use Rattle.ring.specs.Ring.{point_at}
use Rattle.ring.specs.Each.{each}
use Rattle.laws.specs.FirstBest.{better, over, nest}
use Rattle.pairs.specs.Pairs as pairs
use Rattle.contacts.specs.Touching.{edge_end, edges_of, edges_touch, touches_by, touching}
use Rattle.contacts.specs.Contacts.{picks}
use Rattle.vectors.specs.Vectors.{opposite_of, direction_of, vertex_edge, edge_vertex, edge_edge, vector_by, vector_of, vectors_from, vector_numbers}
use Rattle.vectors.specs.Fit.{apart_from, visited_of, potential_of, keeps, kept_vectors}
use Rattle.selection.specs.Score.{preferred_of, continued_of, score_of}
use Rattle.selection.specs.Select.{vector_at, score_at, scored_at, unscored, select_of}
use Rattle.collision.specs.Ray.{ray_within, ray_of, edge_ray}
use Rattle.collision.specs.Hit.{counted_of, nearer}
use Rattle.collision.specs.Check.{hit_of, scan_of, back_of, both_of, sweep_of, collision_of}
use Rattle.ring.specs.Points.{points}
use Rattle.ring.specs.Moved.{moved_of}
use Rattle.ring.proofs.Worked.{f2, S, Q}
use Rattle.choose.specs.Choose.{vector_no, choice_of}
use Rattle.pass.specs.Slide.{times_of, made_of, blocked_of, closes_of, land_of, slide_of}
use Rattle.pass.specs.Pass.{scene, chosen, pass_at, pass_of}
use Rattle.pass.specs.declared.Margins.{Margins}
use Rattle.pass.specs.declared.Step.TheVariants.{Store}

-- -2.0
abbrev m2 : Float
m2 = neg f2

-- 1e-6, 1e-8
abbrev margins : Margins
margins = record { tolerance = float 0x3eb0_c6f7_a0b5_ed8d; smallest = float 0x3e45_798e_e230_8c3a }

first_pass : pass_of (scene S Q margins (point f2 f2) (point f0 m2)) (f0 ∷ m2 ∷ []) (record { position = point f0 m2; previous = None; stuck = 0 })
    ≡ Store (record { position = point f2 m2; previous = Some (point f1 f0); stuck = 0 })
unfolding pass_of pass_at moved_of points picks touching touches_by edges_of edge_end edges_touch pairs.pair_of point_at near_segment_of to_segment_of along_of project_of clamped_foot clamp_of parallel_of abs_of cross_of minus_of plus_of dot_of length_of distance_of normalize_of sqrt_of chosen choice_of vector_no select_of over better unscored scored_at score_at vector_at score_of continued_of preferred_of vector_numbers kept_vectors keeps visited_of apart_from each potential_of ahead_of smaller_of larger_of or_number ahead minus_zero vectors_from vector_of vector_by vertex_edge edge_vertex edge_edge direction_of opposite_of slide_of land_of closes_of blocked_of made_of times_of collision_of sweep_of both_of back_of scan_of hit_of nest nearer counted_of edge_ray ray_of ray_within add sub mul div lt le eq neg of_bits
first_pass = refl
