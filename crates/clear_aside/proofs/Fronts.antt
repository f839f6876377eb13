-- What the search and the check ask for and find, of the disc put aside at the fronts of two rooms. Assumes nothing.
use Prim.Native.Nat.{ℕ}
use native.Mathlib.Omega.{arith}
use mathlib.Core.Path.{◌≡◌, sym, ◌∙◌}
use mathlib.Core.Bool.{Bool, true, false}
use mathlib.Core.List.{List}
use lib.ListN.{length, take}
use Rattle.laws.proofs.Both.{both}
use Rattle.shifted.specs.Shifted.{SmallRing}
use Rattle.shifted.specs.declared.Spot.{Spot}
use Rattle.put_aside.specs.Aside.{aside, stays_on}
use Rattle.put_aside.proofs.Off.{aside_small}
use Rattle.reasons.specs.Check.{Ground, clear, edge, check_of}
use Rattle.reason_check.specs.Lent.{WayLent, ReasonLent}
use Rattle.reason_search.specs.Search.{search_of}
use Rattle.reason_search.specs.Room.{SearchLent, room_of}
use Rattle.reason_search.proofs.Lines.{lines_front}
use Rattle.drawn_aside.specs.Found.{stays_both, found_by, checked_by}
use Rattle.clear_aside.specs.Aside.{DiscMoved, Asked, BothHold, LinesHeld}
use Rattle.clear_aside.proofs.Held.{as_long, end_pairs}

module _ (st a b : List ℕ) (from to : Spot) (how : ℕ) {u : Bool} (e : u ≡ stays_both a b from to how) where
  -- ---- a corner leaves the grid

  module _ (q : u ≡ false) where
    pub found_off : edge 0 ≡ found_by st a b from to how
    unfolding found_by
    found_off = rw (← e, q)

    pub checked_off : (ls : List ℕ) → edge 0 ≡ checked_by st a b from to how ls
    unfolding checked_by
    checked_off ls = rw (← e, q)

  -- ---- none does

  module _ (q : u ≡ true) {start end : List ℕ} (H : BothHold a b from to how start end) where
    abbrev starts_at : List ℕ
    starts_at = take (length a) start

    abbrev ends_at : List ℕ
    ends_at = take (length b) end

    way : DiscMoved a b from to → WayLent (aside a from to how) (aside b from to how)
    way M =
        let s = both (stays_on a from to how) (stays_on b from to how) (sym e ∙ q) in
        record {
          same = as_long b from to how (end_pairs M) ∙ M.same ∙ sym (as_long a from to how M.pairs);
          starts_small = aside_small a from to how s.0;
          ends_small = aside_small b from to how s.1;
        }

    pub fronts_searched : (lines : List ℕ) → Asked st a b from to lines → SearchLent st starts_at ends_at lines
    fronts_searched lines A =
        let M = A.moved in
        let long = as_long a from to how M.pairs in
        rw (H.starts, H.ends)
        (record {
          moved = way M;
          some = omega (arith, long, M.some);
          most = omega (arith, long, M.most);
          ring_small = A.ring_small;
          enough = A.enough;
        })

    pub fronts_checked : (ls : List ℕ) → Asked st a b from to ls → SmallRing ls → ReasonLent st starts_at ends_at ls
    fronts_checked ls A small =
        let M = A.moved in
        rw (H.starts, H.ends)
        (record {
          moved = way M;
          some = omega (arith, as_long a from to how M.pairs, M.some);
          ring_small = A.ring_small;
          lines_small = small;
          enough = A.enough;
        })

    pub found_is : {v : Ground} → v ≡ search_of st starts_at ends_at → v ≡ found_by st a b from to how
    unfolding found_by
    found_is f = f ∙ rw (H.starts, H.ends, ← e, q)

    pub checked_is : (ls : List ℕ) {v : Ground} → v ≡ check_of st starts_at ends_at ls → v ≡ checked_by st a b from to how ls
    unfolding checked_by
    checked_is ls f = f ∙ rw (H.starts, H.ends, ← e, q)

    pub lines_held : (held : List ℕ) {v : Ground} {out : List ℕ} → v ≡ search_of st starts_at ends_at
        → out ≡ room_of st starts_at ends_at held → v ≡ clear → LinesHeld st a b from to how out
    lines_held held f g k = rw (← H.starts, ← H.ends) (lines_front st starts_at ends_at held g (sym f ∙ k))
