-- What is found on a leg of a path on the grid: st are the stationary corners moved up, disc the disc's as drawn and path the
-- points, on the grid. The leg is from point i to point k. Definitions only.
use Rattle.std.specs.Prelude.{ℕ, ◌*◌, ◌/◌, ◌≤◌, ◌<◌, ◌≡◌, true, List, length, take, ℤ}
use Rattle.shifted.specs.Shifted.{spot_in, Small, SmallRing}
use Rattle.reasons.specs.Check.{Ground}
use Rattle.reason_search.specs.Room.{lines_to}
use Rattle.put_aside.specs.Aside.{aside}
use Rattle.clear_path.specs.Rows.{is_placed}
use Rattle.clear_path.specs.Path.{corners_at}
use Rattle.drawn_aside.specs.Found.{Least, found_by, checked_by, least_how}
use Rattle.clear_aside.specs.declared.Found.{Found}
use Rattle.clear_aside.specs.declared.Found.TheVariants.{Clear}

module _ (st : List ℕ) (disc path : List ℤ) (i k : ℕ) where
  -- by the search, with the least `how` that parts every edge
  unfoldable pub leg_least : Least
  leg_least = least_how st (corners_at disc path i) (corners_at disc path k) (spot_in path i) (spot_in path k)

  -- by the search with this `how`, and by the check of lines
  abbrev pub leg_found : ℕ → Ground
  leg_found how = found_by st (corners_at disc path i) (corners_at disc path k) (spot_in path i) (spot_in path k) how

  unfoldable pub leg_checked : ℕ → List ℕ → Ground
  leg_checked how ls = checked_by st (corners_at disc path i) (corners_at disc path k) (spot_in path i) (spot_in path k) how ls

  -- the lines that the search takes
  unfoldable pub leg_lines : ℕ → List ℕ
  leg_lines how =
      lines_to st (aside (corners_at disc path i) (spot_in path i) (spot_in path k) how)
      (aside (corners_at disc path k) (spot_in path i) (spot_in path k) how) (length st / 2)

-- what a leg is lent: a ring that is moved up, a disc of 1 to 256 corners, no half of one, and points, all within the bounds, the
-- disc at both ends of the leg
pub record LegLent (st : List ℕ) (disc path : List ℤ) (i k : ℕ) : Type 0 where
  pub ring_small : SmallRing st
  pub pairs : (n : ℕ) × (length disc ≡ 2 * n)
  pub some : 0 < length disc / 2
  pub most : length disc ≤ 512
  pub from_in : i < length path / 2
  pub to_in : k < length path / 2
  pub from_small : Small (spot_in path i)
  pub to_small : Small (spot_in path k)
  pub from_placed : is_placed disc path i ≡ true
  pub to_placed : is_placed disc path k ≡ true

-- what a room holds where the leg is clear: the lines at its front
abbrev pub LegKept : List ℕ → List ℤ → List ℤ → ℕ → ℕ → Found → List ℕ → Type 0
LegKept st disc path i k r lines =
    (how : ℕ) → r ≡ Clear how → take (4 * (length st / 2)) lines ≡ leg_lines st disc path i k how
