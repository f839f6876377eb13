-- What points and edges lie in, and when edges and points lie apart along an axis. Definitions only.
use Rattle.std.specs.Prelude.{ℕ, ◌<◌, ◌≡◌, Bool, false, ◌&&◌, ◌||◌, cond, List, T, Float}
use Rattle.std.specs.Float.{nan, binary64}
use Rattle.std.specs.Float.Ieee.{fits, lt, neg}
use Rattle.scalar.specs.Float.{◌⊕◌, ◌⊖◌, ◌⊗◌, f0}
use Rattle.plane.specs.Vector.{minus_of, plus_of}
use Rattle.plane.specs.declared.Point.{Point}
use Rattle.ring.specs.Ring.{count, point_at, next_of}
use Rattle.frames.specs.declared.Frame.{Frame}

-- a point is in the bounds: no coordinate is less than the lower or more than the upper one
pub record Inside (q : Frame) (p : Point) : Type 0 where
  pub not_left : lt p.x q.left ≡ false
  pub not_right : lt q.right p.x ≡ false
  pub not_below : lt p.y q.low ≡ false
  pub not_above : lt q.high p.y ≡ false

-- the coordinates are an f64's
abbrev pub HeldPoint : Point → Type 0
HeldPoint p = T (fits binary64 p.x) × T (fits binary64 p.y)

-- both ends of the edge a b are, the second as it is worked out from the first
pub record Spans (q : Frame) (a b : Point) : Type 0 where
  pub first : Inside q a
  pub second : Inside q (plus_of a (minus_of b a))
  pub held : HeldPoint a

-- the edges of a ring are, as many as are counted
abbrev pub Around : Frame → List Float → ℕ → Type 0
Around q r n = (i : ℕ) → i < n → Spans q (point_at r i) (point_at r (next_of i (count r)))

-- what is in the first bounds is in the second
abbrev pub WithinFrame : Frame → Frame → Type 0
WithinFrame q r = (p : Point) → Inside q p → Inside r p

-- a bound lowered to a number, or raised to it; a NaN leaves it
unfoldable pub lower_number : Float → Float → Float
lower_number bound x = cond (lt x bound) x bound

unfoldable pub higher_number : Float → Float → Float
higher_number bound x = cond (lt bound x) x bound

-- so far is above zero and its square above that of a tolerance, which is above zero too
unfoldable pub wide : Float → Float → Bool
wide tol far = lt f0 tol && (lt (tol ⊗ tol) (far ⊗ far) && lt f0 far)

-- twice a tolerance, where that is wide, and else a NaN, which nothing is above or below
unfoldable pub margin_of : Float → Float
margin_of tol = cond (wide tol (tol ⊕ tol)) (tol ⊕ tol) nan

-- along one axis edges from low to high lie more than so far above points from bottom to top, or below them
unfoldable pub beyond : Float → Float → Float → Float → Float → Bool
beyond low high bottom top far = lt far (low ⊖ top) || lt (high ⊖ bottom) (neg far)

-- edges lie apart from points along one of the axes, by more than the margin
unfoldable pub apart : Frame → Frame → Float → Bool
apart edges points tol =
    let far = margin_of tol in
    beyond edges.left edges.right points.left points.right far
    || beyond edges.low edges.high points.low points.high far

-- along one axis both ends of an edge from a to b lie more than so far above p, or below it
unfoldable pub past : Float → Float → Float → Float → Bool
past p a b far =
    let g = a ⊖ p in
    let h = a ⊕ (b ⊖ a) ⊖ p in
    cond (lt far g) (lt far h) (lt g (neg far) && lt h (neg far))
