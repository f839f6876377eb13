-- A ray against a segment, in the order of operations of `nfp_sliding.rs`. Definitions only.
use Rattle.std.specs.Prelude.{ℕ, ◌&&◌, cond, List, Option, Some, None, Float}
use Rattle.std.specs.Float.Ieee.{lt, le, neg}
use Rattle.scalar.specs.Float.{◌⊕◌, ◌⊘◌, f0, f1}
use Rattle.scalar.specs.Scalar.{abs_of, larger_of}
use Rattle.plane.specs.Vector.{minus_of, cross_of}
use Rattle.plane.specs.declared.Point.{Point}
use Rattle.ring.specs.Ring.{count, point_at, next_of}

-- t, the parameter along the ray, and u, the parameter along the segment, are both within the tolerance
unfoldable pub ray_within : Float → Float → Float → Option Float
ray_within t u tol = cond (le (neg tol) t && (le (neg tol) u && le u (f1 ⊕ tol))) (Some (larger_of t f0)) None

-- `ray_segment_intersection`: the ray from o along d against the segment p q
unfoldable pub ray_of : Point → Point → Point → Point → Float → Option Float
ray_of o d p q tol =
    let seg = minus_of q p in
    let den = cross_of d seg in
    let diff = minus_of p o in
    cond (lt (abs_of den) tol) None (ray_within (cross_of diff seg ⊘ den) (cross_of diff d ⊘ den) tol)

-- against the edge e of a ring
unfoldable pub edge_ray : Point → Point → List Float → ℕ → Float → Option Float
edge_ray o d r e tol = ray_of o d (point_at r e) (point_at r (next_of e (count r))) tol
