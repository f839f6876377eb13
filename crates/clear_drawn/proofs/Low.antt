-- The numbers of the lines that a search takes for a disc put aside are within the bounds. Assumes nothing.
use Prim.Native.Nat.{ℕ, ◌*◌, ◌/◌, ◌≤◌, ◌<◌}
use mathlib.Core.Path.{◌≡◌, refl, sym, ap, subst, ◌∙◌}
use mathlib.Core.Bool.{true}
use mathlib.Core.List.{List}
use lib.ListN.{length, get_or, take}
use lib.Seq.{take-length, get_or-take}
use Rattle.shifted.specs.declared.Spot.{Spot}
use Rattle.reasons.specs.Check.{clear}
use Rattle.reason_search.specs.Search.{search_of}
use Rattle.reason_search.specs.Room.{SearchLent, lines_to, room_of}
use Rattle.reason_search.proofs.Lines.{lines_low, lines_front}
use Rattle.put_aside.specs.Aside.{aside}
use Rattle.drawn_aside.specs.Found.{stays_both, found_by}
use Rattle.drawn_aside.proofs.Told.{found_on, clear_no_edge}
use Rattle.clear_aside.specs.Aside.{Asked, BothHold}
use Rattle.clear_aside.proofs.Held.{as_long, end_pairs}
use Rattle.clear_aside.proofs.Fronts.{fronts_searched}

module _ (st a b : List ℕ) (from to : Spot) (how : ℕ) (room : List ℕ) (A : Asked st a b from to room)
    (found : found_by st a b from to how ≡ clear) where
  abbrev start : List ℕ
  start = aside a from to how

  abbrev end : List ℕ
  end = aside b from to how

  on : (stays_both a b from to how ≡ true) × (search_of st start end ≡ clear)
  unfolding found_by
  on = found_on _ _ clear found clear_no_edge

  -- a list as its own front
  itself : (ns : List ℕ) (n : ℕ) → length ns ≡ n → take n ns ≡ ns
  itself ns n e = ap (λ k. take k ns) (sym e) ∙ take-length ns

  held : BothHold a b from to how start end
  held =
      record {
        starts = itself start (length a) (as_long a from to how A.moved.pairs);
        ends = itself end (length b) (as_long b from to how (end_pairs A.moved));
      }

  lent : SearchLent st start end room
  lent = rw (held.starts, held.ends) at (fronts_searched st a b from to how (sym on.0) refl held room A)

  -- number k of a room that has them at its front
  pub taken_low : (lines : List ℕ) → take (4 * (length st / 2)) lines ≡ lines_to st start end (length st / 2)
      → (k : ℕ) → k < 4 * (length st / 2) → get_or lines k 0 ≤ 2000000
  taken_low lines e k h =
      let n = 4 * (length st / 2) in
      let all = room_of st start end room in
      let q : get_or all k 0 ≡ get_or lines k 0 =
      sym (get_or-take n all k 0 h) ∙ ap (λ l. get_or l k 0) (lines_front st start end room refl on.1 ∙ sym e) ∙ get_or-take n lines k 0 h in
      subst (λ (u : ℕ). u ≤ 2000000) q (lines_low st start end room refl on.1 lent k h)
