-- Points with whole coordinates within a million, as floats and as integers, and the same points in natural numbers.
-- Definitions only.
use Rattle.std.specs.Prelude.{ℕ, ◌+◌, ◌*◌, ◌/◌, ◌≤◌, ◌<◌, List, length, get_or, ℤ, pos, Float}
use Rattle.plane.specs.declared.Point.{Point}
use Rattle.ring.specs.Ring.{count, point_at}
use Rattle.shifted.specs.declared.Spot.{Spot}
use Rattle.whole_floats.specs.Whole.{Whole, Difference}

-- the coordinates of the point a are whole numbers within a million, and A has them plus a million
pub record Placed (a : Point) (A : Spot) : Type 0 where
  pub across : Whole a.x A.x 1000000
  pub upward : Whole a.y A.y 1000000
  pub width : A.x ≤ 2000000
  pub height : A.y ≤ 2000000

-- so is each vertex of a ring, vertex i being at `at i`
abbrev pub PlacedRing : List Float → (ℕ → Spot) → Type 0
PlacedRing r at = (i : ℕ) → i < count r → Placed (point_at r i) (at i)

-- ---- the same of integers

pub record Stands (u v : ℤ) (A : Spot) : Type 0 where
  pub across : Difference u A.x 1000000
  pub upward : Difference v A.y 1000000
  pub width : A.x ≤ 2000000
  pub height : A.y ≤ 2000000

abbrev pub StandingRing : List ℤ → (ℕ → Spot) → Type 0
StandingRing zs at = (i : ℕ) → i < length zs / 2 → Stands (get_or zs (2 * i) (pos 0)) (get_or zs (2 * i + 1) (pos 0)) (at i)
