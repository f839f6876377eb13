-- The centroid of a polygon, as docs/SCOPE.md fixes it. Definitions only.
use Rattle.std.specs.Prelude.{ℕ, zero, suc, cond, List, pos, Float}
use Rattle.std.specs.Float.{binary64}
use Rattle.std.specs.Float.Ieee.{lt, of_int}
use Rattle.scalar.specs.Float.{◌⊕◌, ◌⊖◌, ◌⊗◌, ◌⊘◌, float, f0}
use Rattle.scalar.specs.Scalar.{abs_of}
use Rattle.plane.specs.Vector.{point, plus_of, f1e_10}
use Rattle.plane.specs.declared.Point.{Point}
use Rattle.ring.specs.Ring.{count, point_at, next_of}
use Rattle.centroid.specs.declared.Moments.{Moments}

-- the sums with the edge from p to q, whose c is x_i * y_j - x_j * y_i: of c, of (x_i + x_j) * c, of (y_i + y_j) * c
unfoldable pub grown_of : Moments → Point → Point → Moments
grown_of m p q =
    let c = p.x ⊗ q.y ⊖ q.x ⊗ p.y in
    record { area = m.area ⊕ c; x = m.x ⊕ (p.x ⊕ q.x) ⊗ c; y = m.y ⊕ (p.y ⊕ q.y) ⊗ c }

-- over the first k edges, from 0.0
unfoldable pub moments_to : List Float → ℕ → Moments
moments_to r zero = record { area = f0; x = f0; y = f0 }
moments_to r (suc k) = grown_of (moments_to r k) (point_at r k) (point_at r (next_of k (count r)))

-- the sum of the first k vertices, from 0.0
unfoldable pub total_to : List Float → ℕ → Point
total_to r zero = point f0 f0
total_to r (suc k) = plus_of (total_to r k) (point_at r k)

-- each coordinate's sum divided by the vertex count
unfoldable pub mean_of : List Float → Point
mean_of r =
    let sum = total_to r (count r) in
    let n = of_int binary64 (pos (count r)) in
    point (sum.x ⊘ n) (sum.y ⊘ n)

-- 3.0
abbrev pub f3 : Float
f3 = float 0x4008_0000_0000_0000

-- the mean where |A| < 1e-10, else the sums over 3 * A
unfoldable pub centroid_of : List Float → Point
centroid_of r =
    let m = moments_to r (count r) in
    let d = f3 ⊗ m.area in
    cond (lt (abs_of m.area) f1e_10) (mean_of r) (point (m.x ⊘ d) (m.y ⊘ d))
