-- The orbiting polygon at the points of a path: what the tests let pass, and what the search on a leg asks for. Assumes nothing.
use Prim.Native.Nat.{ℕ, ◌+◌, ◌-◌, ◌/◌, ◌≤◌, ◌<◌}
use native.Mathlib.Nat.{mod-lt}
use native.Mathlib.Omega.{arith}
use mathlib.Core.Path.{◌≡◌, refl, sym, ◌∙◌}
use mathlib.Core.Bool.{Bool, true}
use mathlib.Core.List.{List, map}
use lib.ListN.{length, length-map}
use lib.IntN.{ℤ}
use Rattle.ring.specs.Each.{each}
use Rattle.ring.specs.Ring.{next_of}
use Rattle.ring.proofs.Each.{each_at}
use Rattle.refusals.specs.Refusals.{none, refused_number, passed, first}
use Rattle.refusals.specs.Lists.{list_fault}
use Rattle.refusals.proofs.Sized.{row_parts, holds, fine}
use Rattle.shifted.specs.Shifted.{up_of}
use Rattle.whole_engine.specs.Rows.{all_in_bounds, wrong_whole}
use Rattle.whole_engine.proofs.Within.{small_lifted}
use Rattle.whole_moves.proofs.Turns.{moved_up_length}
use Rattle.reasons.specs.Check.{Ground}
use Rattle.reason_search.specs.Search.{search_of}
use Rattle.reason_search.specs.Room.{SearchLent}
use Rattle.clear_calls.specs.Rows.{whole_polygon_extent}
use Rattle.clear_path.specs.Rows.{whole_path_extent, placed_at, is_placed, wrong_place, of_whole_path}
use Rattle.clear_path.specs.Path.{corners_at, corners_next, leg_found}
use Rattle.clear_path.specs.Lent.{LegsLent}

-- ---- the tests

pub all_left : (p : ℕ → Bool) (n : ℕ) → each p 0 n ≡ each p 0 (n - 0)
all_left p n = let e : n - 0 ≡ n = omega arith in rw e

module _ (st orb path : List ℤ) where
  pub path_passed : passed (of_whole_path st orb path) ≡ true → LegsLent (map up_of st) orb path
  unfolding of_whole_path
  path_passed h =
      let ring = list_fault (whole_polygon_extent st) 0 in
      let polygon = list_fault (whole_polygon_extent orb) 1 in
      let points = list_fault (whole_path_extent path) 2 in
      let places = first (wrong_whole orb) (wrong_place orb path) in
      let p = row_parts (first ring (first polygon points)) (first (wrong_whole st) places) h in
      let q = row_parts ring (first polygon points) p.0 in
      let r = row_parts (wrong_whole st) places p.1 in
      let s = row_parts (wrong_whole orb) (wrong_place orb path) r.1 in
      let f = fine (whole_polygon_extent st) 0 q.0 in
      let g = fine (whole_polygon_extent orb) 1 (row_parts polygon points q.1).0 in
      let all = holds (each (is_placed orb path) 0 (length path / 2)) refused_number 0 refl s.1 in
      record {
        ring_most = omega (arith, length-map st up_of, f.whole, f.within);
        ring_small = small_lifted st (holds (all_in_bounds st) refused_number 0 refl r.0);
        least = omega (arith, g.whole, g.enough);
        most = omega (arith, g.whole, g.within);
        placed = λ i l. each_at (is_placed orb path) 0 (length path / 2) i all (omega arith) (omega arith);
      }

  pub path_lent : none ≡ of_whole_path st orb path → LegsLent (map up_of st) orb path
  path_lent e = path_passed (rw (← e))

  pub ring_fits : LegsLent (map up_of st) orb path → length st ≤ 512
  ring_fits L = omega (arith, length-map st up_of, L.ring_most)

-- ---- a leg

-- as many corners there as are drawn
pub corners_length : (orb path : List ℤ) (k : ℕ) → length (corners_at orb path k) ≡ length orb
corners_length orb path k = moved_up_length orb _ _

module _ (st : List ℕ) (orb path : List ℤ) (i : ℕ) (l : i < length path / 2) (L : LegsLent st orb path) where
  leg_lent : (room : List ℕ) → 1024 ≤ length room → SearchLent st (corners_at orb path i) (corners_next orb path i) room
  leg_lent room h =
      let n = length path / 2 in
      let k : next_of i n < n = mod-lt (i + 1) (omega arith) in
      record {
        moved = record {
          same = corners_length orb path (next_of i n) ∙ sym (corners_length orb path i);
          starts_small = small_lifted (placed_at orb path i) (L.placed i l);
          ends_small = small_lifted (placed_at orb path (next_of i n)) (L.placed (next_of i n) k);
        };
        some = omega (arith, corners_length orb path i, L.least);
        most = omega (arith, corners_length orb path i, L.most);
        ring_small = L.ring_small;
        enough = omega (arith, L.ring_most);
      }

  -- the fronts of two rooms hold the corners there
  module _ {a b : List ℕ} {k : ℕ} (e : a ≡ corners_at orb path i) (f : b ≡ corners_at orb path k)
      (is : k ≡ next_of i (length path / 2)) where
    pub fronts_searched : (room : List ℕ) → 1024 ≤ length room → SearchLent st a b room
    fronts_searched room h = rw (e, f, is) (leg_lent room h)

    pub leg_is : {v : Ground} → v ≡ search_of st a b → v ≡ leg_found st orb path i
    unfolding leg_found
    leg_is q = rw (← is, ← e, ← f) q
