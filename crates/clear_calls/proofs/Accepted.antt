-- What `clear_move` leaves in the room where it answers `clear` is accepted by `check_reason`: so it is a reason. Assumes nothing.
use Prim.Native.Nat.{ℕ, suc, ◌*◌, ◌/◌, ◌%◌, ◌≤◌, ◌<◌}
use native.Mathlib.Omega.{arith}
use mathlib.Core.Path.{◌≡◌, refl, sym, ◌∙◌}
use mathlib.Core.Bool.{true}
use mathlib.Core.List.{List, [], ◌∷◌, map, append-nil}
use lib.ListN.{length, get_or, take, length-map, drop_of_length-le}
use lib.Seq.{take_at}
use lib.IntN.{ℤ}
use borrow.Author.Tests.{eq-eqb, le-leb}
use Rattle.refusals.specs.Refusals.{passed, first}
use Rattle.refusals.specs.Lists.{list_fault}
use Rattle.refusals.specs.Answers.{answers}
use Rattle.refusals.specs.Refusals.{Told}
use Rattle.refusals.proofs.Sized.{row_parts}
use Rattle.shifted.specs.Shifted.{up_of}
use Rattle.whole_engine.specs.Rows.{all_in_bounds, wrong_whole}
use Rattle.whole_moves.specs.Moved.{moved_up, down_of}
use Rattle.whole_moves.proofs.Lowered.{down_within, up_down}
use Rattle.reasons.specs.Check.{clear, check_of}
use Rattle.reason_search.specs.Search.{reached, search_of}
use Rattle.reason_search.specs.Room.{SearchLent, lines_to, room_of}
use Rattle.reason_search.proofs.Laying.{length_lines}
use Rattle.reason_search.proofs.Found.{all_edges, search_checked}
use Rattle.reason_search.proofs.Lines.{lines_low}
use Rattle.clear_calls.specs.Rows.{whole_polygon_extent, reason_extent, wrong_end, of_whole_move, of_reason}
use Rattle.clear_calls.specs.Lent.{WholeMove}
use Rattle.clear_calls.specs.Calls.{found_of, reason_of, short_room, of_clear_move, clear_move_call, written_for}
use Rattle.clear_calls.specs.Calls.{clear_move_room, check_reason_call}
use Rattle.clear_calls.specs.Told.{Apart}
use Rattle.clear_calls.proofs.Passed.{move_passed}
use Rattle.clear_calls.proofs.Fronts.{search_lent}
use Rattle.clear_calls.proofs.Reasoned.{answered, reason_apart}

-- ---- numbers that are brought down

abbrev Low : List ℕ → Type 0
Low us = (i : ℕ) → i < length us → get_or us i 0 ≤ 2000000

rest_low : (u : ℕ) (us : List ℕ) → Low (u ∷ us) → Low us
rest_low u us h i l = h (suc i) (omega arith)

downs_within : (us : List ℕ) → Low us → all_in_bounds (map down_of us) ≡ true
unfolding all_in_bounds
downs_within [] h = refl
downs_within (u ∷ us) h = rw (down_within u (h 0 (omega arith)), downs_within us (rest_low u us h))

downs_up : (us : List ℕ) → Low us → map up_of (map down_of us) ≡ us
downs_up [] h = refl
downs_up (u ∷ us) h = rw (up_down u (h 0 (omega arith)), downs_up us (rest_low u us h))

-- ---- rows that pass

both_pass : (a b : Told) → passed a ≡ true → passed b ≡ true → passed (first a b) ≡ true
both_pass a b h k = rw (h, k)

-- a reason of four numbers for each edge has no fault
reason_fine : (st ls : List ℤ) → length ls ≡ 4 * (length st / 2) → passed (list_fault (reason_extent st ls) 2) ≡ true
reason_fine st ls e =
    let k = length st / 2 in
    let a : length ls % 4 ≡ 0 = omega arith in
    let b : k ≤ length ls / 4 = omega arith in
    let c : length ls / 4 ≤ k = omega arith in
    rw (eq-eqb _ _ a, le-leb _ _ b, le-leb _ _ c)

module _ (st orb : List ℤ) (dx dy : ℤ) (ls : List ℤ) where
  reason_passes : passed (of_whole_move st orb dx dy) ≡ true → length ls ≡ 4 * (length st / 2) → all_in_bounds ls ≡ true
      → passed (of_reason st orb dx dy ls) ≡ true
  unfolding of_whole_move of_reason
  reason_passes h e w =
      let ring = list_fault (whole_polygon_extent st) 0 in
      let polygon = list_fault (whole_polygon_extent orb) 1 in
      let lines = list_fault (reason_extent st ls) 2 in
      let ends = wrong_end orb dx dy in
      let p = row_parts (first ring polygon) (first (wrong_whole st) (first (wrong_whole orb) ends)) h in
      let q = row_parts ring polygon p.0 in
      let r = row_parts (wrong_whole st) (first (wrong_whole orb) ends) p.1 in
      let s = row_parts (wrong_whole orb) ends r.1 in
      let own : passed (wrong_whole ls) ≡ true = rw w in
      both_pass (first ring (first polygon lines)) (first (wrong_whole st) (first (wrong_whole orb) (first (wrong_whole ls) ends)))
      (both_pass ring (first polygon lines) q.0 (both_pass polygon lines q.1 (reason_fine st ls e)))
      (both_pass (wrong_whole st) (first (wrong_whole orb) (first (wrong_whole ls) ends)) r.0
      (both_pass (wrong_whole orb) (first (wrong_whole ls) ends) s.0 (both_pass (wrong_whole ls) ends own s.1)))

-- ---- the lines that the search takes

module _ (st a b : List ℕ) (found : search_of st a b ≡ clear) where
  abbrev all : List ℕ
  all = lines_to st a b (length st / 2)

  every : reached st a b ≡ length st / 2
  every = all_edges st a b [] refl found

  all_is : all ≡ room_of st a b all
  all_is =
      let l : length all ≤ length all = omega arith in
      rw (every, drop_of_length-le all l) (sym (append-nil all))

  pub lines_checked : check_of st a b all ≡ clear
  lines_checked = search_checked st a b all all_is found

  pub all_low : SearchLent st a b all → Low all
  all_low L i h = lines_low st a b all all_is found L i (omega (arith, length_lines st a b (length st / 2)))

-- ---- `clear_move`

module _ (st orb : List ℤ) (dx dy : ℤ) where
  module _ (found : found_of st orb dx dy ≡ clear) where
    abbrev taken : List ℕ
    taken = lines_to (map up_of st) (map up_of orb) (moved_up orb dx dy) (length st / 2)

    same : taken ≡ all (map up_of st) (map up_of orb) (moved_up orb dx dy) found
    same = rw (length-map st up_of)

    checked : check_of (map up_of st) (map up_of orb) (moved_up orb dx dy) taken ≡ clear
    checked = rw same (lines_checked (map up_of st) (map up_of orb) (moved_up orb dx dy) found)

    reason_length : length (reason_of st orb dx dy) ≡ 4 * (length st / 2)
    reason_length =
        length-map taken down_of ∙ length_lines (map up_of st) (map up_of orb) (moved_up orb dx dy) (length st / 2)

    taken_low : WholeMove st orb dx dy → Low taken
    taken_low W =
        let n = length (map up_of st) / 2 in
        let long = length_lines (map up_of st) (map up_of orb) (moved_up orb dx dy) n in
        rw same
        (all_low (map up_of st) (map up_of orb) (moved_up orb dx dy) found
        (search_lent st orb dx dy W _ (omega (arith, long, length-map st up_of))))

    -- the reason that is written is accepted
    found_accepted : passed (of_whole_move st orb dx dy) ≡ true → check_reason_call st orb dx dy (reason_of st orb dx dy) ≡ answers clear
    found_accepted h =
        let low = taken_low (move_passed st orb dx dy h) in
        rw (reason_passes st orb dx dy (reason_of st orb dx dy) h reason_length (downs_within taken low), downs_up taken low, checked)

  module _ (room : List ℤ) (c : clear_move_call st orb dx dy (length room) ≡ answers clear) where
    abbrev row : Told
    row = of_clear_move st orb dx dy (length room)

    told : (passed row ≡ true) × (found_of st orb dx dy ≡ clear)
    told = answered row _ _ c

    -- what the room holds at its front
    pub room_front : take (4 * (length st / 2)) (clear_move_room st orb dx dy room) ≡ reason_of st orb dx dy
    unfolding written_for
    room_front = rw (told.0, told.1) (take_at (reason_of st orb dx dy) _ _ (reason_length told.1))

    pub room_accepted : check_reason_call st orb dx dy (take (4 * (length st / 2)) (clear_move_room st orb dx dy room)) ≡ answers clear
    room_accepted =
        rw room_front
        (found_accepted told.1 (row_parts (of_whole_move st orb dx dy) (short_room st orb dx dy (length room)) told.0).0)

    pub move_apart : Apart (map up_of st) (map up_of orb) (moved_up orb dx dy)
    move_apart = reason_apart st orb dx dy _ room_accepted
