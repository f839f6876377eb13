-- When a pair of two rings touches, and where, in the order of operations of `nfp_sliding.rs`. Definitions only.
use Rattle.std.specs.Prelude.{ℕ, Bool, ◌&&◌, cond, List, eqb, Float}
use Rattle.scalar.specs.Float.{◌⊕◌, ◌⊘◌, f2}
use Rattle.plane.specs.Vector.{point, minus_of, parallel_of}
use Rattle.plane.specs.Segment.{near_segment_of}
use Rattle.plane.specs.declared.Point.{Point}
use Rattle.ring.specs.Ring.{count, point_at, next_of}
use Rattle.pairs.specs.declared.Pair.{Pair}
use Rattle.contacts.specs.declared.Edges.{Edges}

-- each kind has its own: 0 vertex-edge, 1 edge-vertex, 2 edge-edge
abbrev pub by_kind : {A : Type 0} → ℕ → A → A → A → A
by_kind kd ve ev ee = cond (eqb kd 0) ve (cond (eqb kd 1) ev ee)

-- the vertex at the end of the edge i
unfoldable pub edge_end : List Float → ℕ → Point
edge_end r i = point_at r (next_of i (count r))

-- a pair's two edges
unfoldable pub edges_of : List Float → List Float → Pair → Edges
edges_of st orb p =
    let s = p.stationary in
    let o = p.orbiting in
    record { a = point_at st s; b = edge_end st s; c = point_at orb o; d = edge_end orb o }

-- parallel, and both ends of the orbiting edge near the stationary one
unfoldable pub edges_touch : Edges → Float → Bool
edges_touch e tol =
    parallel_of (minus_of e.b e.a) (minus_of e.d e.c)
    && (near_segment_of e.c e.a e.b tol && near_segment_of e.d e.a e.b tol)

unfoldable pub touches_by : ℕ → Edges → Float → Bool
touches_by kd e tol = by_kind kd (near_segment_of e.c e.a e.b tol) (near_segment_of e.a e.c e.d tol) (edges_touch e tol)

unfoldable pub touching : List Float → List Float → Float → Pair → Bool
touching st orb tol p = touches_by p.kind (edges_of st orb p) tol

abbrev pub middle : Point → Point → Point
middle p q = point ((p.x ⊕ q.x) ⊘ f2) ((p.y ⊕ q.y) ⊘ f2)

unfoldable pub point_by : ℕ → Edges → Point
point_by kd e = by_kind kd e.c e.a (middle e.c e.d)

unfoldable pub contact_point : List Float → List Float → Pair → Point
contact_point st orb p = point_by p.kind (edges_of st orb p)
