-- The corners and the lines that are lifted into the fronts of rooms: what the search and the check ask for. Assumes nothing.
use Prim.Native.Nat.{ℕ, ◌*◌, ◌/◌, ◌≤◌}
use native.Mathlib.Omega.{arith}
use mathlib.Core.Path.{◌≡◌, sym, ap, ◌∙◌}
use mathlib.Core.List.{List, map}
use lib.ListN.{length, take, length-map}
use lib.Seq.{take_at}
use lib.IntN.{ℤ}
use Rattle.ring.specs.Room.{laid}
use Rattle.shifted.specs.Shifted.{up_of}
use Rattle.whole_engine.proofs.Within.{small_lifted}
use Rattle.whole_moves.specs.Moved.{moved_by, moved_up}
use Rattle.whole_moves.proofs.Turns.{moved_up_length}
use Rattle.reasons.specs.Check.{Ground, check_of}
use Rattle.reason_check.specs.Lent.{WayLent, ReasonLent}
use Rattle.reason_search.specs.Search.{search_of}
use Rattle.reason_search.specs.Room.{SearchLent, room_of}
use Rattle.clear_calls.specs.Lent.{WholeMove, WholeReason}

-- ---- a front

module _ (zs : List ℤ) (d : List ℕ) {room : List ℕ} where
  pub lifted_front : room ≡ laid (map up_of zs) d → take (length zs) room ≡ map up_of zs
  lifted_front e = ap (take (length zs)) e ∙ take_at (map up_of zs) _ (length zs) (length-map zs up_of)

  pub moved_front : (dx dy : ℤ) → room ≡ laid (moved_up zs dx dy) d → take (length zs) room ≡ moved_up zs dx dy
  moved_front dx dy e = ap (take (length zs)) e ∙ take_at (moved_up zs dx dy) _ (length zs) (moved_up_length zs dx dy)

-- ---- what is asked for

module _ (st orb : List ℤ) (dx dy : ℤ) where
  module _ (W : WholeMove st orb dx dy) where
    way_lent : WayLent (map up_of orb) (moved_up orb dx dy)
    way_lent =
        record {
          same = moved_up_length orb dx dy ∙ sym (length-map orb up_of);
          starts_small = small_lifted orb W.starts_within;
          ends_small = small_lifted (moved_by dx dy orb) W.ends_within;
        }

    pub search_lent : (room : List ℕ) → 4 * (length st / 2) ≤ length room
        → SearchLent (map up_of st) (map up_of orb) (moved_up orb dx dy) room
    search_lent room h =
        record {
          moved = way_lent;
          some = omega (arith, length-map orb up_of, W.least);
          most = omega (arith, length-map orb up_of, W.most);
          ring_small = small_lifted st W.ring_within;
          enough = omega (arith, length-map st up_of);
        }

  check_lent : (ls : List ℤ) → WholeReason st orb dx dy ls
      → ReasonLent (map up_of st) (map up_of orb) (moved_up orb dx dy) (map up_of ls)
  check_lent ls R =
      record {
        moved = way_lent R.polygons;
        some = omega (arith, length-map orb up_of, R.polygons.least);
        ring_small = small_lifted st R.polygons.ring_within;
        lines_small = small_lifted ls R.lines_within;
        enough = omega (arith, length-map st up_of, length-map ls up_of, R.four_each);
      }

  -- ---- of the fronts

  module _ {s a b : List ℕ} (e : s ≡ map up_of st) (f : a ≡ map up_of orb) (g : b ≡ moved_up orb dx dy) where
    pub fronts_searched : (room : List ℕ) → WholeMove st orb dx dy → 1024 ≤ length room → SearchLent s a b room
    fronts_searched room W h = rw (e, f, g) (search_lent W room (omega (arith, W.ring_most)))

    pub search_is : {v : Ground} → v ≡ search_of s a b → v ≡ search_of (map up_of st) (map up_of orb) (moved_up orb dx dy)
    search_is q = rw (← e, ← f, ← g) q

    pub room_is : (room : List ℕ) {out : List ℕ} → out ≡ room_of s a b room
        → out ≡ room_of (map up_of st) (map up_of orb) (moved_up orb dx dy) room
    room_is room q = rw (← e, ← f, ← g) q

    module _ (ls : List ℤ) {l : List ℕ} (k : l ≡ map up_of ls) where
      pub fronts_checked : WholeReason st orb dx dy ls → ReasonLent s a b l
      fronts_checked R = rw (e, f, g, k) (check_lent ls R)

      pub check_is : {v : Ground} → v ≡ check_of s a b l → v ≡ check_of (map up_of st) (map up_of orb) (moved_up orb dx dy) (map up_of ls)
      check_is q = rw (← e, ← f, ← g, ← k) q
