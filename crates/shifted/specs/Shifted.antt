-- A whole coordinate moved up by a million, so that no number is below zero, and the points of a lent list. Definitions only.
use Rattle.std.specs.Prelude.{ℕ, ◌+◌, ◌-◌, ◌*◌, ◌/◌, ◌≤◌, ◌<◌, Bool, cond, List, leb, ltb, length, get_or, ℤ, pos, negsuc}
use Rattle.shifted.specs.declared.Spot.{Spot}

-- within a million
abbrev pub in_bounds : ℤ → Bool
in_bounds (pos n) = leb n 1000000
in_bounds (negsuc n) = ltb n 1000000

-- the coordinate and a million; 2,000,001 for one that is out of bounds
unfoldable pub up_of : ℤ → ℕ
up_of (pos n) = cond (leb n 1000000) (n + 1000000) 2000001
up_of (negsuc n) = cond (ltb n 1000000) (999999 - n) 2000001

-- a point
abbrev pub spot_of : ℤ → ℤ → Spot
spot_of x y = record { x = up_of x; y = up_of y }

-- point i of a list that holds x, y, x, y ..
abbrev pub spot_in : List ℤ → ℕ → Spot
spot_in zs i = spot_of (get_or zs (2 * i) (pos 0)) (get_or zs (2 * i + 1) (pos 0))

-- the same of numbers that are moved up already
abbrev pub spot_at : List ℕ → ℕ → Spot
spot_at ns i = record { x = get_or ns (2 * i) 0; y = get_or ns (2 * i + 1) 0 }

-- a point within the bounds
pub record Small (a : Spot) : Type 0 where
  pub width : a.x ≤ 2000000
  pub height : a.y ≤ 2000000

-- so is each point of a list
abbrev pub SmallRing : List ℕ → Type 0
SmallRing ns = (i : ℕ) → i < length ns / 2 → Small (spot_at ns i)
