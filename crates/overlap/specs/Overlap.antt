-- When two polygons overlap, as `polygons_overlap_with_tolerance` of `nfp_sliding.rs` tests it. Definitions only.
use Rattle.std.specs.Prelude.{ℕ, Bool, not, ◌&&◌, ◌||◌, List, Float}
use Rattle.std.specs.Float.Ieee.{lt, neg}
use Rattle.scalar.specs.Scalar.{abs_of}
use Rattle.plane.specs.Vector.{point, minus_of, normalize_of, f1e_10}
use Rattle.plane.specs.declared.Point.{Point}
use Rattle.ring.specs.Each.{each}
use Rattle.ring.specs.Ring.{count, point_at, next_of}
use Rattle.overlap.specs.Extent.{apart_of, box_of, shadow_of}

-- `edge_vector`: the edge from vertex i
unfoldable pub edge_of : List Float → ℕ → Point
edge_of r i = minus_of (point_at r (next_of i (count r))) (point_at r i)

-- its normal
unfoldable pub axis_of : List Float → ℕ → Point
axis_of r i =
    let edge = edge_of r i in
    normalize_of (point (neg edge.y) edge.x)

-- an edge with no length has none
unfoldable pub no_axis : Point → Bool
no_axis axis = lt (abs_of axis.x) f1e_10 && lt (abs_of axis.y) f1e_10

-- the axis is none, or a and b are not apart on it
unfoldable pub meets_on : List Float → List Float → Point → Float → Bool
meets_on a b axis tol = no_axis axis || not (apart_of (shadow_of a axis) (shadow_of b axis) tol)

abbrev pub meets_at : List Float → List Float → List Float → Float → ℕ → Bool
meets_at a b r tol i = meets_on a b (axis_of r i) tol

-- a and b meet on the normal to each edge of r
unfoldable pub meets_along : List Float → List Float → List Float → Float → Bool
meets_along a b r tol = each (meets_at a b r tol) 0 (count r)

unfoldable pub boxes_apart : List Float → List Float → Float → Bool
boxes_apart a b tol =
    let p = box_of a in
    let q = box_of b in
    apart_of p.x q.x tol || apart_of p.y q.y tol

-- `polygons_overlap_with_tolerance`: the boxes are not apart, and no edge of a and then none of b gives an axis with a gap
unfoldable pub overlap_of : List Float → List Float → Float → Bool
overlap_of a b tol = not (boxes_apart a b tol) && (meets_along a b a tol && meets_along a b b tol)
