-- What the search on the legs is lent, once the tests have passed. Definitions only.
use Rattle.std.specs.Prelude.{ℕ, ◌/◌, ◌≤◌, ◌<◌, ◌≡◌, true, List, length, ℤ}
use Rattle.shifted.specs.Shifted.{SmallRing}
use Rattle.clear_path.specs.Rows.{is_placed}

-- a ring that is moved up and an orbiting polygon, of 3 to 256 corners, all within the bounds, at each point of the path
pub record LegsLent (st : List ℕ) (orb path : List ℤ) : Type 0 where
  pub ring_most : length st ≤ 512
  pub ring_small : SmallRing st
  pub least : 6 ≤ length orb
  pub most : length orb ≤ 512
  pub placed : (i : ℕ) → i < length path / 2 → is_placed orb path i ≡ true
