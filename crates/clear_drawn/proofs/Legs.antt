-- A leg on the grid: what the search and the check of a disc put aside ask for there, and that what they find is what is found on
-- the leg. Assumes nothing.
use Prim.Native.Nat.{ℕ, ◌*◌, ◌/◌, ◌≤◌}
use native.Mathlib.Omega.{arith}
use mathlib.Core.Path.{◌≡◌, sym, ◌∙◌}
use mathlib.Core.List.{List}
use lib.ListN.{length}
use lib.IntN.{ℤ}
use Rattle.shifted.specs.Shifted.{spot_in}
use Rattle.shifted.specs.declared.Spot.{Spot}
use Rattle.whole_engine.proofs.Within.{small_lifted}
use Rattle.reasons.specs.Check.{Ground}
use Rattle.clear_path.specs.Rows.{placed_at}
use Rattle.clear_path.specs.Path.{corners_at}
use Rattle.clear_path.proofs.Placed.{corners_length}
use Rattle.drawn_aside.specs.Found.{Least, checked_by, least_how}
use Rattle.clear_aside.specs.Aside.{DiscMoved, Asked, Kept}
use Rattle.clear_aside.specs.declared.Found.{Found}
use Rattle.clear_drawn.specs.Legs.{leg_least, leg_checked, leg_lines, LegLent, LegKept}

module _ {st : List ℕ} {disc path : List ℤ} {i k : ℕ} (L : LegLent st disc path i k) where
  moved : DiscMoved (corners_at disc path i) (corners_at disc path k) (spot_in path i) (spot_in path k)
  moved =
      record {
        pairs = (L.pairs.0, corners_length disc path i ∙ L.pairs.1);
        same = corners_length disc path k ∙ sym (corners_length disc path i);
        some = omega (arith, corners_length disc path i, L.some);
        most = omega (arith, corners_length disc path i, L.most);
        starts_small = small_lifted (placed_at disc path i) L.from_placed;
        ends_small = small_lifted (placed_at disc path k) L.to_placed;
        from_small = L.from_small;
        to_small = L.to_small;
      }

  pub asked : (lines : List ℕ) → 4 * (length st / 2) ≤ length lines
      → Asked st (corners_at disc path i) (corners_at disc path k) (spot_in path i) (spot_in path k) lines
  asked lines h = record { moved = moved; ring_small = L.ring_small; enough = h }

-- the fronts of two rooms hold the corners at both ends
module _ (st : List ℕ) (disc path : List ℤ) (i k : ℕ) {a b : List ℕ} {from to : Spot} (e : a ≡ corners_at disc path i)
    (f : b ≡ corners_at disc path k) (g : from ≡ spot_in path i) (h : to ≡ spot_in path k) where
  pub fronts_asked : LegLent st disc path i k → (lines : List ℕ) → 4 * (length st / 2) ≤ length lines → Asked st a b from to lines
  fronts_asked L lines l = rw (e, f, g, h) (asked L lines l)

  pub leg_is : {v : Least} → v ≡ least_how st a b from to → v ≡ leg_least st disc path i k
  unfolding leg_least
  leg_is q = rw (← e, ← f, ← g, ← h) q

  pub leg_kept : (r : Found) (lines : List ℕ) → Kept st a b from to r lines → LegKept st disc path i k r lines
  unfolding leg_lines
  leg_kept r lines q = rw (← e, ← f, ← g, ← h) q

  pub leg_checked_lem : {v : Ground} (how : ℕ) (ls : List ℕ) → v ≡ checked_by st a b from to how ls → v ≡ leg_checked st disc path i k how ls
  unfolding leg_checked
  leg_checked_lem how ls q = rw (← e, ← f, ← g, ← h) q
