-- What the search on the legs is lent, all on the grid: st are the stationary corners moved up, disc the disc's as drawn.
-- Definitions only.
use Rattle.std.specs.Prelude.{ℕ, ◌*◌, ◌/◌, ◌≤◌, ◌<◌, ◌≡◌, true, List, length, ℤ}
use Rattle.ring.specs.Ring.{next_of}
use Rattle.shifted.specs.Shifted.{spot_in, Small, SmallRing}
use Rattle.clear_path.specs.Rows.{is_placed}
use Rattle.drawn_aside.specs.Found.{Least}
use Rattle.clear_drawn.specs.Legs.{leg_least}

-- a ring of at most 256 corners, a disc of 1 to 256, and points, all within the bounds, the disc at each point
pub record LegsLent (st : List ℕ) (disc path : List ℤ) : Type 0 where
  pub ring_most : length st ≤ 512
  pub ring_small : SmallRing st
  pub pairs : (n : ℕ) × (length disc ≡ 2 * n)
  pub some : 0 < length disc / 2
  pub most : length disc ≤ 512
  pub small : (i : ℕ) → i < length path / 2 → Small (spot_in path i)
  pub placed : (i : ℕ) → i < length path / 2 → is_placed disc path i ≡ true

-- what is found on the leg from the point i to the next, after the last to the first
abbrev pub leg_at : List ℕ → List ℤ → List ℤ → ℕ → Least
leg_at st disc path i = leg_least st disc path i (next_of i (length path / 2))
