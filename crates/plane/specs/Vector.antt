-- Vectors, in the order of operations of `nfp_sliding.rs`. Definitions only.
use Rattle.std.specs.Prelude.{Bool, ◌&&◌, cond, Float}
use Rattle.std.specs.Float.{binary64}
use Rattle.std.specs.Float.Ieee.{lt, eq}
use Rattle.scalar.specs.Float.{◌⊕◌, ◌⊖◌, ◌⊗◌, ◌⊘◌, float, f0}
use Rattle.scalar.specs.Scalar.{abs_of}
use Rattle.square_root.specs.Root.{sqrt_of}
use Rattle.plane.specs.declared.Point.{Point}

abbrev pub point : Float → Float → Point
point a b = record { x = a; y = b }

unfoldable pub minus_of : Point → Point → Point
minus_of a b = point (a.x ⊖ b.x) (a.y ⊖ b.y)

unfoldable pub plus_of : Point → Point → Point
plus_of a b = point (a.x ⊕ b.x) (a.y ⊕ b.y)

-- equal as numbers
unfoldable pub same_of : Point → Point → Bool
same_of a b = eq a.x b.x && eq a.y b.y

-- `dot`
unfoldable pub dot_of : Point → Point → Float
dot_of a b = a.x ⊗ b.x ⊕ a.y ⊗ b.y

-- `cross`
unfoldable pub cross_of : Point → Point → Float
cross_of a b = a.x ⊗ b.y ⊖ a.y ⊗ b.x

abbrev pub root : Float → Float
root x = sqrt_of binary64 x

unfoldable pub length_of : Point → Float
length_of v = root (dot_of v v)

-- `distance`
unfoldable pub distance_of : Point → Point → Float
distance_of a b = length_of (minus_of b a)

-- 1e-10
abbrev pub f1e_10 : Float
f1e_10 = float 0x3ddb_7cdf_d9d7_bdbb

-- `normalize`
unfoldable pub normalize_of : Point → Point
normalize_of v =
    let len = length_of v in
    cond (lt len f1e_10) (point f0 f0) (point (v.x ⊘ len) (v.y ⊘ len))

-- `edges_parallel`: |cross| < (1e-10 * len1) * len2
unfoldable pub parallel_of : Point → Point → Bool
parallel_of e1 e2 = lt (abs_of (cross_of e1 e2)) (f1e_10 ⊗ length_of e1 ⊗ length_of e2)

-- (bx-ax)*(cy-ay) - (by-ay)*(cx-ax)
unfoldable pub turn_of : Point → Point → Point → Float
turn_of a b c = cross_of (minus_of b a) (minus_of c a)

-- so far from a point in a direction
unfoldable pub ahead_of : Point → Point → Float → Point
ahead_of at dir far = point (at.x ⊕ dir.x ⊗ far) (at.y ⊕ dir.y ⊗ far)
