-- A polygon made counter-clockwise, in the order of operations of `nfp_sliding.rs`. Definitions only.
use Rattle.std.specs.Prelude.{ℕ, zero, suc, ◌-◌, Bool, cond, List, Float}
use Rattle.std.specs.Float.Ieee.{lt}
use Rattle.scalar.specs.Float.{◌⊕◌, ◌⊖◌, ◌⊗◌, ◌⊘◌, f0, f2}
use Rattle.plane.specs.declared.Point.{Point}
use Rattle.ring.specs.Ring.{count, point_at, next_of}
use Rattle.ring.specs.Points.{points}

-- x_i * y_j is added, then x_j * y_i subtracted
unfoldable pub area_added : Float → Point → Point → Float
area_added area p q = area ⊕ p.x ⊗ q.y ⊖ q.x ⊗ p.y

-- the sum over the first k edges, from 0.0
unfoldable pub area_sum : List Float → ℕ → Float
area_sum r zero = f0
area_sum r (suc k) = area_added (area_sum r k) (point_at r k) (point_at r (next_of k (count r)))

-- `signed_area`
unfoldable pub area_of : List Float → Float
area_of r = area_sum r (count r) ⊘ f2

-- vertex i, from the end where the order is reversed
unfoldable pub ordered_vertex : List Float → Bool → ℕ → Point
ordered_vertex r reverse i = cond reverse (point_at r (count r - 1 - i)) (point_at r i)

-- the vertices in reverse order
unfoldable pub reversed : List Float → List Float
reversed r = points (λ i. point_at r (count r - 1 - i)) (count r)

-- `ensure_ccw`: reversed where the area is below zero, else as it is
unfoldable pub ccw_of : List Float → List Float
ccw_of r = cond (lt (area_of r) f0) (reversed r) r
