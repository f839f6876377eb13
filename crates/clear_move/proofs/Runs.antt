-- The edges of a line put into a room, as ranges. Assumes nothing.
use Prim.Native.Nat.{ℕ, ◌+◌, ◌*◌}
use mathlib.Core.Path.{◌≡◌, refl, sym}
use mathlib.Core.Bool.{Bool, true, false, cond}
use mathlib.Core.List.{List, [], ◌∷◌, ◌++◌}
use native.Mathlib.Numerals.{add-one}
use borrow.Author.Tests.{eq-eqb, ne_eqb}
use Rattle.print.specs.Digits.{decimal}
use Rattle.print.specs.Text.{Put}
use Rattle.print.proofs.Puts.{empty, then, reads}
use Rattle.clear_move.specs.Shared.{has, has_before, has_after, start_text, end_text, run_text, range_part, ranges_to}

-- ---- a run begins

pub start_own : (j k : ℕ) → k ≡ j → decimal k ≡ start_text j k
unfolding start_text
start_own j k e = rw (eq-eqb k j e)

pub start_later : (j k : ℕ) → (k ≡ j → ⊥) → (44 ∷ 32 ∷ []) ++ decimal k ≡ start_text j k
unfolding start_text
start_later j k n = rw (ne_eqb k j n)

-- ---- what is written of an edge

module _ (o : ℕ → ℕ) (m j k : ℕ) {x : Bool} where
  pub run_starts : x ≡ has_before o j k → x ≡ false → start_text j k ≡ run_text o m j k
  unfolding run_text
  run_starts e h = rw (← e, h)

  module _ {y : Bool} (e : x ≡ has_before o j k) (h : x ≡ true) (f : y ≡ has_after o m j k) where
    pub run_goes : y ≡ true → [] ≡ run_text o m j k
    unfolding run_text
    run_goes g = rw (← e, h, ← f, g)

    pub run_ends : y ≡ false → end_text k ≡ run_text o m j k
    unfolding run_text
    run_ends g = rw (← e, h, ← f, g)

  pub part_of : x ≡ has o j k → x ≡ true → run_text o m j k ≡ range_part o m j k
  unfolding range_part
  part_of e h = rw (← e, h)

  pub no_part : x ≡ has o j k → x ≡ false → [] ≡ range_part o m j k
  unfolding range_part
  no_part e h = rw (← e, h)

-- ---- the room that it takes

pub wide : (b : Bool) {x : Bool} → x ≡ b → x ≡ true → 22 * cond b 1 0 ≡ 22
wide b e h = rw (← e, h) refl

-- ---- edge after edge

module _ (o : ℕ → ℕ) (m j : ℕ) where
  pub no_range : (room : List ℕ) (at : ℕ) → Put room at (ranges_to o m j 0) room at
  unfolding ranges_to
  no_range room at = empty room at

  pub range_more : (k : ℕ) {a b c : List ℕ} {at n r : ℕ} → Put a at (ranges_to o m j k) b n → Put b n (range_part o m j k) c r
      → Put a at (ranges_to o m j (k + 1)) c r
  unfolding ranges_to
  range_more k p q =
      let s : ranges_to o m j (k + 1) ≡ ranges_to o m j k ++ range_part o m j k = rw (add-one k) refl in
      reads (sym s) (then p q)
