-- Squared distances, so that of many only the least has its root taken. Definitions only.
use Rattle.std.specs.Prelude.{Bool, false, cond, ◌≡◌, List, ℕ, zero, suc, T, Float}
use Rattle.std.specs.Float.{nan, inf, fin, binary64}
use Rattle.std.specs.Float.Ieee.{lt, eq, fits, is_nan}
use Rattle.scalar.specs.Float.{◌⊖◌, ◌⊗◌, ◌⊘◌, f0, f1}
use Rattle.scalar.specs.Scalar.{clamp_of}
use Rattle.plane.specs.Vector.{point, minus_of, dot_of, root}
use Rattle.plane.specs.declared.Point.{Point}
use Rattle.ring.specs.Ring.{count, point_at, next_of}

-- the parameter of the foot of w on the segment from (0, 0) to d
unfoldable pub foot_along : Point → Point → Float
foot_along w d = cond (eq (dot_of d d) f0) f0 (clamp_of (dot_of w d ⊘ dot_of d d) f0 f1)

-- the squared distance of w from that segment
unfoldable pub squared_from : Point → Point → Float
squared_from w d =
    let t = foot_along w d in
    let v = point (w.x ⊖ t ⊗ d.x) (w.y ⊖ t ⊗ d.y) in
    dot_of v v

-- the squared distance of p from the segment a b
abbrev pub squared_distance : Point → Point → Point → Float
squared_distance p a b = squared_from (minus_of p a) (minus_of b a)

-- the smaller of a least and a new one, which stays out where it is a NaN
abbrev pub nearer_of : Float → Float → Float
nearer_of least s = cond (lt s least) s least

-- the smallest of what was found before and the squared distances of p from the first k edges
unfoldable pub squared_to : Point → List Float → Float → ℕ → Float
squared_to p r before zero = before
squared_to p r before (suc k) = nearer_of (squared_to p r before k) (squared_distance p (point_at r k) (point_at r (next_of k (count r))))

-- the same of the first k vertices of one ring and all edges of the other
unfoldable pub squared_way : List Float → List Float → Float → ℕ → Float
squared_way a b before zero = before
squared_way a b before (suc k) = squared_to (point_at a k) b (squared_way a b before k) (count b)

-- s is the smallest of the edges below one if least is that of the edges below another
abbrev pub Carries : Point → List Float → ℕ → ℕ → Float → Float → Type 0
Carries p r from to least s = (before : Float) → least ≡ squared_to p r before from → s ≡ squared_to p r before to

-- set where a value is negative or -0.0
abbrev pub sign : Float → Bool
sign nan = false
sign (inf s) = s
sign (fin s m e) = s

-- a value of an f64 that is neither a NaN nor has the sign set
pub record Square (s : Float) : Type 0 where
  pub held : T (fits binary64 s)
  pub number : is_nan s ≡ false
  pub plus : sign s ≡ false

-- s is the square of the distance r
pub record Squares (s r : Float) : Type 0 where
  pub square : Square s
  pub is : root s ≡ r
