-- What bounds a chain of neighbouring edges for rays of one direction, and the test by which a ray passes beside them all. Definitions only.
use Rattle.std.specs.Prelude.{ℕ, ◌+◌, ◌*◌, ◌≤◌, ◌<◌, ◌≡◌, Bool, true, false, ◌&&◌, ◌||◌, List, T, Float}
use Rattle.std.specs.Float.Ieee.{lt, le, neg}
use Rattle.scalar.specs.Float.{f0·5, f1, ◌⊕◌, ◌⊘◌}
use Rattle.scalar.specs.Scalar.{abs_of}
use Rattle.plane.specs.Vector.{point, minus_of, cross_of}
use Rattle.plane.specs.declared.Point.{Point}
use Rattle.ring.specs.Ring.{count, point_at, next_of}
use Rattle.ring.specs.Room.{put_at}
use Rattle.chains.specs.declared.Chain.{Chain}

-- how far a point lies to the side of the ray from v along d: the numerator of the parameter along a segment that starts there
abbrev pub aside_of : Point → Point → Point → Float
aside_of v d p = cross_of (minus_of p v) d

-- its denominator for the segment p q, and twice the size of that
abbrev pub across_of : Point → Point → Point → Float
across_of d p q = cross_of d (minus_of q p)

abbrev pub twice : Float → Float
twice y = abs_of y ⊕ abs_of y

-- the parameter along the segment p q is not within the tolerance
abbrev pub Beside : Point → Point → Point → Point → Float → Type 0
Beside v d p q tol =
    let u = aside_of v d p ⊘ across_of d p q in
    le (neg tol) u && le u (f1 ⊕ tol) ≡ false

-- the ray passes beside a chain: its points lie to one side, by more than twice any denominator
unfoldable pub passes : Chain → Point → Point → Bool
passes b v d = lt b.far (aside_of v d b.least) || lt b.far (neg (aside_of v d b.most))

-- where that is so, with a tolerance of at most a half, the parameter along the segment p q is not within it
abbrev pub Bounds : Chain → Point → Point → Point → Type 0
Bounds b d p q = (v : Point) (tol : Float) → T (le tol f0·5) → passes b v d ≡ true → Beside v d p q tol

-- the same of the edges of a ring, from one on and below another
abbrev pub BoundsEdges : Chain → Point → List Float → ℕ → ℕ → Type 0
BoundsEdges b d r from to = (e : ℕ) → from ≤ e → e < to → Bounds b d (point_at r e) (point_at r (next_of e (count r)))

-- a chain in a table, which has three points for each: both corners, and twice the largest denominator
unfoldable pub chain_at : List Float → ℕ → Chain
chain_at t c = record { least = point_at t (3 * c); most = point_at t (3 * c + 1); far = (point_at t (3 * c + 2)).x }

unfoldable pub put_chain : List Float → ℕ → Chain → List Float
put_chain t c b = put_at (put_at (put_at t (3 * c) b.least) (3 * c + 1) b.most) (3 * c + 2) (point b.far b.far)

-- the edge e of a ring is one of the chain c, which has eight
pub record InChain (c e : ℕ) : Type 0 where
  pub not_before : 8 * c ≤ e
  pub not_after : e < 8 * c + 8

-- a table has the chains of a ring's edges, as many as are counted
abbrev pub Tabled : List Float → Point → List Float → ℕ → Type 0
Tabled t d r n = (c e : ℕ) → InChain c e → e < n → Bounds (chain_at t c) d (point_at r e) (point_at r (next_of e (count r)))
