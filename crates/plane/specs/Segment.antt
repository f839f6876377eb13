-- A point against a segment, in the order of operations of `nfp_sliding.rs` and of `polygon_ops.rs`. Definitions only.
use Rattle.std.specs.Prelude.{Bool, cond, Float}
use Rattle.std.specs.Float.Ieee.{lt, eq}
use Rattle.scalar.specs.Float.{◌⊕◌, ◌⊖◌, ◌⊗◌, ◌⊘◌, float, f0, f1}
use Rattle.scalar.specs.Scalar.{clamp_of}
use Rattle.plane.specs.Vector.{point, minus_of, dot_of, distance_of, root}
use Rattle.plane.specs.declared.Point.{Point}

-- 1e-20
abbrev pub f1e_20 : Float
f1e_20 = float 0x3bc7_9ca1_0c92_4223

-- the foot of p on the line from a along d, whose squared length is lenSq, cut to the segment
unfoldable pub clamped_foot : Point → Point → Point → Float → Float
clamped_foot p a d lenSq = clamp_of (dot_of (minus_of p a) d ⊘ lenSq) f0 f1

-- `project_point_to_segment`: 0 where the squared length is below 1e-20
unfoldable pub project_of : Point → Point → Point → Float
project_of p a b =
    let d = minus_of b a in
    let lenSq = dot_of d d in
    cond (lt lenSq f1e_20) f0 (clamped_foot p a d lenSq)

-- the point of the segment at the parameter t
unfoldable pub along_of : Point → Point → Float → Point
along_of a b t = point (a.x ⊕ t ⊗ (b.x ⊖ a.x)) (a.y ⊕ t ⊗ (b.y ⊖ a.y))

-- `point_to_segment_distance`
unfoldable pub to_segment_of : Point → Point → Point → Float
to_segment_of p a b = distance_of p (along_of a b (project_of p a b))

-- `point_on_segment`
unfoldable pub near_segment_of : Point → Point → Point → Float → Bool
near_segment_of p a b tol = lt (to_segment_of p a b) tol

-- ---- `polygon_ops.rs`

-- 0 where the segment has no length
unfoldable pub ring_foot_of : Point → Point → Point → Float
ring_foot_of p a b =
    let d = minus_of b a in
    let lenSq = dot_of d d in
    cond (eq lenSq f0) f0 (clamped_foot p a d lenSq)

-- what is left of p - a along one axis
abbrev pub left_over : Float → Float → Float → Float → Float
left_over p a t d = p ⊖ a ⊖ t ⊗ d

-- `point_segment_distance`
unfoldable pub segment_distance_of : Point → Point → Point → Float
segment_distance_of p a b =
    let t = ring_foot_of p a b in
    let x = left_over p.x a.x t (b.x ⊖ a.x) in
    let y = left_over p.y a.y t (b.y ⊖ a.y) in
    root (x ⊗ x ⊕ y ⊗ y)
