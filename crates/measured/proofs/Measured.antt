-- Every measured piece holds of the written rules, by computation. Assumes nothing.
use mathlib.Core.Path.{◌≡◌, refl}
use mathlib.Core.List.{List, [], ◌∷◌, ◌++◌}
use lib.Ieee.{round, add, sub, mul, div, lt, le, eq, neg, of_bits, to_bits}
use Rattle.scalar.specs.Scalar.{abs_of, minus_zero, ahead, or_number, smaller_of, larger_of, clamp_of}
use Rattle.square_root.specs.Root.{sqrt_of}
use Rattle.plane.specs.Vector.{minus_of, plus_of, dot_of, cross_of, length_of, distance_of, parallel_of, turn_of}
use Rattle.plane.specs.Segment.{clamped_foot, project_of, along_of, to_segment_of, near_segment_of}
use Rattle.ring.specs.Each.{each}
use Rattle.ring.specs.Ring.{point_at, previous_vertex}
use Rattle.ring.specs.Points.{points}
use Rattle.ring.specs.Moved.{moved_of}
use Rattle.refusals.specs.Rows.{of_points3, of_ring, of_two_polygons, of_touching, of_moving, of_rooms, of_list}
use Rattle.refusals.specs.Bounds.{coordinate, finite, every}
use Rattle.laws.specs.FirstBest.{better, over, nest}
use Rattle.start_position.specs.Start.{lower_of, upper_of, extreme_vertex, start_of}
use Rattle.pairs.specs.Pairs as pairs
use Rattle.contacts.specs.Touching.{edge_end, edges_of, edges_touch, touches_by, touching, point_by, contact_point}
use Rattle.contacts.specs.Contacts.{picks, contacts_of, points_of}
use Rattle.projection.specs.Foot.{foot_at, foot_of}
use Rattle.contacts_call.specs.Which.{foot_by, contact_foot, which_of}
use Rattle.contacts_call.specs.Calls.{find_refusal}
use Rattle.collision.specs.Ray.{ray_within, ray_of, edge_ray}
use Rattle.collision.specs.Hit.{counted_of, nearer}
use Rattle.collision.specs.Check.{hit_of, scan_of, back_of, both_of, sweep_of, collision_of}
use Rattle.collision.specs.Nearest.{ray_at}
use Rattle.simplify.specs.Simplify.{stays_of, piece, survivors, simplified}
use Rattle.simplify.specs.Calls.{simplify_refusal}
use Rattle.reading.specs.Reading.{ord, less, best, best_of, least_reading}
use Rattle.reading.specs.Lent.{kept}
use Rattle.segments.specs.Segments.{sign_of, orientation_of, between_of, straddles_of, crosses_of, touches_of, intersect_of}
use Rattle.segments.specs.Segments as segments
use Rattle.simple_polygon.specs.Simple.{adjacent_of, clear_pair, clear_row, is_simple}
use Rattle.signed_area.specs.Area.{term_of, sum_to, area2_of}
use Rattle.measured.specs.Lent.{S, there, tolerance}
use Rattle.measured.specs.Piece.{Piece, AllHold}
use Rattle.measured.specs.Pieces.{roots, foot, starting, contacts, moves, path, ring, crossed, pieces}

roots_hold : AllHold roots
unfolding roots sqrt_of round neg
roots_hold = (refl, (refl, (refl, (refl, record {}))))

foot_holds : AllHold foot
unfolding foot of_points3 coordinate foot_of foot_at eq to_segment_of along_of project_of clamped_foot clamp_of distance_of length_of minus_of dot_of sqrt_of add sub mul div lt of_bits round
foot_holds = (refl, (refl, record {}))

starting_holds : AllHold starting
unfolding starting of_two_polygons every coordinate start_of extreme_vertex over better lower_of upper_of point_at minus_of sub lt round neg
starting_holds = (refl, record {})

-- the contacts' numbers in the scan
numbers : contacts_of S there tolerance ≡ 8 ∷ 12 ∷ 15 ∷ 18 ∷ 19 ∷ 34 ∷ []
unfolding picks touching touches_by edges_of edge_end edges_touch pairs.pair_of point_at near_segment_of to_segment_of along_of project_of clamped_foot clamp_of parallel_of abs_of cross_of minus_of dot_of length_of distance_of sqrt_of add sub mul div lt neg of_bits round moved_of points plus_of
numbers = refl

contacts_hold : AllHold contacts
unfolding contacts find_refusal of_touching of_two_polygons of_rooms every coordinate lt le eq neg of_bits round moved_of points plus_of add sub mul which_of pairs.pair_of contact_foot foot_by foot_of foot_at project_of clamped_foot clamp_of minus_of dot_of points_of contact_point point_by edges_of edge_end point_at div
contacts_hold = (rw numbers refl, (rw numbers refl, (rw numbers refl, record {})))

moves_hold : AllHold moves
unfolding moves of_moving of_two_polygons every coordinate finite collision_of sweep_of both_of back_of scan_of hit_of nest over better nearer counted_of edge_ray ray_of ray_within pairs.pair_of ray_at larger_of or_number ahead minus_zero abs_of point_at minus_of cross_of length_of dot_of sqrt_of add sub mul div lt le eq neg of_bits round moved_of points plus_of
moves_hold = (refl, (refl, (refl, (refl, (refl, (refl, record {}))))))

path_holds : AllHold path
unfolding path simplify_refusal of_list every finite simplified survivors piece stays_of previous_vertex point_at turn_of to_segment_of along_of project_of clamped_foot clamp_of distance_of length_of minus_of dot_of cross_of sqrt_of add sub mul div lt le eq of_bits round
path_holds = (refl, (refl, (refl, record {})))

ring_holds : AllHold ring
unfolding ring least_reading best_of best less ord kept to_bits eq of_bits round
ring_holds = (refl, record {})

crossed_holds : AllHold crossed
unfolding crossed of_ring every coordinate is_simple clear_row clear_pair adjacent_of each intersect_of touches_of crosses_of straddles_of segments.on_segment_of between_of orientation_of sign_of point_at turn_of cross_of minus_of smaller_of larger_of or_number ahead minus_zero area2_of sum_to term_of add sub mul lt le neg of_bits round
crossed_holds = (refl, (refl, record {}))

-- a list made of two
join : (ps qs : List Piece) → AllHold ps → AllHold qs → AllHold (ps ++ qs)
join [] qs first rest = rest
join (p ∷ ps) qs first rest = (first.0, join ps qs first.1 rest)

pub measured : AllHold pieces
unfolding pieces
measured =
    join roots _ roots_hold
    (join foot _ foot_holds
    (join starting _ starting_holds
    (join contacts _ contacts_hold
    (join moves _ moves_hold
    (join path _ path_holds
    (join ring _ ring_holds crossed_holds))))))
