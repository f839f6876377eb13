-- Worked examples, by computation: the call for docs/SCOPE.md's S and Q where Q starts. Assumes nothing.
use mathlib.Core.Path.{◌≡◌, refl}
use mathlib.Core.List.{[], ◌∷◌}
use lib.Ieee.{add, sub, mul, div, lt, le, eq, neg, of_bits}
use Rattle.scalar.specs.Float.{f0}
use Rattle.refusals.specs.Rows.{of_two_polygons, of_touching, of_rooms}
use Rattle.refusals.specs.Refusals.{refuse}
use Rattle.refusals.specs.Bounds.{coordinate, every}
use Rattle.refusals.specs.Answers.{answers, refuses}
use Rattle.scalar.specs.Scalar.{clamp_of}
use Rattle.plane.specs.Vector.{minus_of, dot_of}
use Rattle.plane.specs.Segment.{clamped_foot, project_of}
use Rattle.ring.specs.Ring.{point_at}
use Rattle.pairs.specs.Pairs.{pair_of}
use Rattle.projection.specs.Foot.{foot_at, foot_of}
use Rattle.contacts.specs.Touching.{edge_end, edges_of}
use Rattle.contacts.specs.Contacts.{contacts_of}
use Rattle.contacts.proofs.Worked.{S, Q, tol, four, numbers}
use Rattle.contacts_call.specs.Which.{foot_by, contact_foot, which_of}
use Rattle.contacts_call.specs.Calls.{find_refusal, find_call}

-- vertex-edge (0,2) between the edge's ends, (0,3) at its start, (3,3) at its end; edge-vertex (0,2) at the end, (0,3) at the start; edge-edge
-- (0,2) with the orbiting edge's first end between
pub contacts : which_of S Q (contacts_of S Q tol)
    ≡ 0 ∷ 0 ∷ 2 ∷ 2 ∷ 0 ∷ 0 ∷ 3 ∷ 0 ∷ 0 ∷ 3 ∷ 3 ∷ 1 ∷ 1 ∷ 0 ∷ 2 ∷ 1 ∷ 1 ∷ 0 ∷ 3 ∷ 0 ∷ 2 ∷ 0 ∷ 2 ∷ 2 ∷ []
unfolding which_of pair_of contact_foot foot_by foot_of foot_at edges_of edge_end point_at project_of clamped_foot clamp_of minus_of dot_of add sub mul div lt eq neg of_bits
contacts = rw numbers

-- rooms of exactly six entries, and rooms that are one number short
pub exact : find_call S Q tol 24 12 ≡ answers 6
unfolding find_refusal of_touching of_two_polygons of_rooms every coordinate lt le eq neg of_bits
exact = rw numbers

pub which_short : find_call S Q tol 23 12 ≡ refuses (refuse 5 0)
unfolding find_refusal of_touching of_two_polygons of_rooms every coordinate lt le eq neg of_bits
which_short = rw numbers

pub points_short : find_call S Q tol 24 11 ≡ refuses (refuse 5 0)
unfolding find_refusal of_touching of_two_polygons of_rooms every coordinate lt le eq neg of_bits
points_short = rw numbers

-- a polygon of two vertices comes before a tolerance of 0, and that before the rooms
pub two_vertices : find_call (f0 ∷ f0 ∷ four ∷ f0 ∷ []) Q f0 0 0 ≡ refuses (refuse 8 0)
unfolding find_refusal of_touching of_two_polygons of_rooms
two_vertices = refl

pub tolerance_0 : find_call S Q f0 0 0 ≡ refuses (refuse 3 0)
unfolding find_refusal of_touching of_two_polygons of_rooms every coordinate lt neg of_bits
tolerance_0 = refl
