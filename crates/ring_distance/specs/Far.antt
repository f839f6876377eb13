-- What bounds neighbouring edges, so that one test tells that none of them is nearer to a point than so far. Definitions only.
use Rattle.std.specs.Prelude.{ℕ, ◌+◌, ◌*◌, ◌≤◌, ◌<◌, ◌≡◌, false, List, length, Float}
use Rattle.std.specs.Float.Ieee.{lt, neg}
use Rattle.scalar.specs.Float.{◌⊖◌, ◌⊗◌, f0}
use Rattle.plane.specs.Vector.{point, minus_of}
use Rattle.plane.specs.declared.Point.{Point}
use Rattle.ring.specs.Ring.{count, point_at, next_of}
use Rattle.ring.specs.Room.{put_at}
use Rattle.frames.specs.Frame.{Inside, higher_number}
use Rattle.frames.specs.declared.Frame.{Frame}
use Rattle.chains.specs.Chain.{InChain}
use Rattle.ring_distance.specs.Squared.{squared_distance}
use Rattle.ring_distance.specs.declared.far.Bounds.{Bounds}

-- the edge a b starts in the bounds of starts, and its way from a to b is in the bounds of ways, as no way at all is
pub record Bounded (w : Bounds) (a b : Point) : Type 0 where
  pub start : Inside w.starts a
  pub way : Inside w.ways (minus_of b a)
  pub nothing : Inside w.ways (point f0 f0)

-- an edge of a ring is so bounded, and its edges from one on and below another
abbrev pub BoundsEdge : List Float → Bounds → ℕ → Type 0
BoundsEdge r w e = Bounded w (point_at r e) (point_at r (next_of e (count r)))

abbrev pub BoundsEdges : Bounds → List Float → ℕ → ℕ → Type 0
BoundsEdges w r from to = (e : ℕ) → from ≤ e → e < to → BoundsEdge r w e

-- the square of what p lies off, along one axis and at least, from edges with starts from low to high and ways from least to most
unfoldable pub gap_of : Float → Float → Float → Float → Float → Float
gap_of p low high least most =
    let g = higher_number (higher_number f0 (p ⊖ high ⊖ most)) (neg (p ⊖ low ⊖ least)) in
    g ⊗ g

-- no edge that is so bounded is nearer to p than the root of least
abbrev pub NoneNearer : Bounds → Point → Float → Type 0
NoneNearer w p least = (a b : Point) → Bounded w a b → lt (squared_distance p a b) least ≡ false

-- frames in a table, which has two points for each: left and low, right and high
unfoldable pub frame_in : List Float → ℕ → Frame
frame_in t i =
    let p = point_at t (2 * i) in
    let q = point_at t (2 * i + 1) in
    record { left = p.x; right = q.x; low = p.y; high = q.y }

unfoldable pub put_frame : List Float → ℕ → Frame → List Float
put_frame t i f = put_at (put_at t (2 * i) (point f.left f.low)) (2 * i + 1) (point f.right f.high)

-- bounds in a table, which has two frames for each: of starts, of ways
unfoldable pub bounds_at : List Float → ℕ → Bounds
bounds_at t c = record { starts = frame_in t (2 * c); ways = frame_in t (2 * c + 1) }

unfoldable pub put_bounds : List Float → ℕ → Bounds → List Float
put_bounds t c w = put_frame (put_frame t (2 * c) w.starts) (2 * c + 1) w.ways

-- a table has the bounds of each chain of a ring's edges, as many as are counted
abbrev pub Tabled : List Float → List Float → ℕ → Type 0
Tabled t r n = (c e : ℕ) → InChain c e → e < n → BoundsEdge r (bounds_at t c) e

-- a table has the bounds of each chain, and behind 32 of them those of all edges
pub record Ready (t r : List Float) : Type 0 where
  pub few : count r ≤ 256
  pub room : 264 ≤ length t
  pub chains : Tabled t r (count r)
  pub whole : BoundsEdges (bounds_at t 32) r 0 (count r)
