-- The pairs of one kind, row by row, and the first of them that touches. Definitions only.
use Rattle.std.specs.Prelude.{ℕ, ◌/◌, ◌%◌, ◌≤◌, ◌<◌, ◌≡◌, Bool, true, false, List, Float}
use Rattle.plane.specs.Segment.{near_segment_of}
use Rattle.plane.specs.declared.Point.{Point}
use Rattle.ring.specs.Ring.{count, point_at}
use Rattle.frames.specs.Frame.{Around}
use Rattle.contacts.specs.Touching.{edge_end, edges_touch}
use Rattle.contacts.specs.declared.Frames.{Frames}

-- r is the first number from `from` on, below n, of which a test holds, or n
pub record FirstFrom (f : ℕ → Bool) (from n r : ℕ) : Type 0 where
  pub least : from ≤ r
  pub most : r ≤ n
  pub clear : (k : ℕ) → from ≤ k → k < r → f k ≡ false
  pub hit : r < n → f r ≡ true

-- p is near the edge i
unfoldable pub on_edge : Point → List Float → Float → ℕ → Bool
on_edge p r tol i = near_segment_of p (point_at r i) (edge_end r i) tol

-- the edge i lies along a b
unfoldable pub along_edge : Point → Point → List Float → Float → ℕ → Bool
along_edge a b r tol i = edges_touch (record { a = a; b = b; c = point_at r i; d = edge_end r i }) tol

-- pair k, of vertices by edges, and of edges by edges
unfoldable pub on_edge_at : List Float → List Float → Float → ℕ → Bool
on_edge_at vs r tol k = on_edge (point_at vs (k / count r)) r tol (k % count r)

unfoldable pub along_edge_at : List Float → List Float → Float → ℕ → Bool
along_edge_at st orb tol k = along_edge (point_at st (k / count orb)) (edge_end st (k / count orb)) orb tol (k % count orb)

-- the bounds of both rings are around them
abbrev pub Framed : Frames → List Float → List Float → Type 0
Framed f st orb = Around f.stationary st (count st) × Around f.orbiting orb (count orb)
