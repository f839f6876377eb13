-- What the lowest and the highest vertex of a ring are. Definitions only.
use Rattle.std.specs.Prelude.{ℕ, ◌<◌, ◌≡◌, true, false, List, Float}
use Rattle.plane.specs.declared.Point.{Point}
use Rattle.ring.specs.Ring.{point_at}
use Rattle.start_position.specs.Start.{lower_of, upper_of}

-- of the first n vertices, one than which none is lower, or as low and further left, and which is so itself against each before it: the first of the equal ones
pub record Lowest (r : List Float) (n : ℕ) (p : Point) : Type 0 where
  pub index : ℕ
  pub within : index < n
  pub is : p ≡ point_at r index
  pub least : (j : ℕ) → j < n → lower_of (point_at r j) p ≡ false
  pub first : (j : ℕ) → j < index → lower_of p (point_at r j) ≡ true

-- of the first n vertices, one than which none is higher, or as high and further left, and which is so itself against each after it: the last of the equal ones
pub record Highest (r : List Float) (n : ℕ) (p : Point) : Type 0 where
  pub index : ℕ
  pub within : index < n
  pub is : p ≡ point_at r index
  pub most : (j : ℕ) → j < n → upper_of (point_at r j) p ≡ false
  pub last : (j : ℕ) → index < j → j < n → upper_of p (point_at r j) ≡ true
