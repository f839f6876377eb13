-- When a ring of whole coordinates is simple: by the points that its edges have in common. Vertex i is at `at i`, and edge i
-- goes from it to the next. Definitions only.
use Rattle.std.specs.Prelude.{ℕ, ◌+◌, ◌*◌, ◌≤◌, ◌<◌, ◌≢◌, List, get_or, ℤ, pos}
use Rattle.ring.specs.Ring.{next_of}
use Rattle.whole_plane.specs.Plane.{WholePoint, whole_point, Common}

-- the edges i and j of n are two, and neither begins where the other ends: they share no vertex of the ring
pub record NotNeighbours (n i j : ℕ) : Type 0 where
  pub two : i ≢ j
  pub not_after : j ≢ next_of i n
  pub not_before : i ≢ next_of j n

-- three vertices or more, and no two edges that are not neighbours have a point in common
pub record SimpleRing (at : ℕ → WholePoint) (n : ℕ) : Type 0 where
  pub three : 3 ≤ n
  pub clear : (i j : ℕ) → i < n → j < n → NotNeighbours n i j → Common (at i) (at (next_of i n)) (at j) (at (next_of j n)) → ⊥

-- point i of a list that holds x, y, x, y ..
abbrev pub point_in : List ℤ → ℕ → WholePoint
point_in zs i = whole_point (get_or zs (2 * i) (pos 0)) (get_or zs (2 * i + 1) (pos 0))
