-- The parts of an input, and what is said of each. Assumes nothing.
use Prim.Native.Nat.{ℕ, ◌-◌, ◌≤◌, ◌<◌}
use native.Mathlib.Omega.{arith}
use mathlib.Core.Path.{◌≡◌, refl, ap, ◌∙◌}
use mathlib.Core.Bool.{true, false}
use mathlib.Core.List.{List}
use lib.ListN.{length, take, drop, length-drop, length-map}
use lib.Seq.{take_all, take_at}
use lib.IntN.{ℤ}
use lib.Ieee.{Float}
use borrow.Author.Tests.{lt-ltb, le-ltb, eq-eqb, ne_eqb}
use Rattle.ring.specs.Room.{laid}
use Rattle.refusals.specs.Refusals.{refused_number, refused_book, refused_few, refuse}
use Rattle.lines.specs.Lines.{refusal_line}
use Rattle.whole_input.specs.Whole.{whole_part, all_whole, wholes, whole_word_at}
use Rattle.clear_move.specs.Said.{pair_text, rings_text, book_text, input_text, move_bytes}

-- ---- two polygons

-- a list at the front of a room
pub front : (xs : List Float) (d : List ℤ) {room : List ℤ} → room ≡ laid (wholes xs) d → take (length xs) room ≡ wholes xs
front xs d e = ap (take (length xs)) e ∙ take_at (wholes xs) (drop (length (wholes xs)) d) (length xs) (length-map xs whole_part)

pub same_pair : {a b c d : List ℤ} {u v x y : ℤ} → a ≡ b → c ≡ d → u ≡ x → v ≡ y → pair_text a c u v ≡ pair_text b d x y
same_pair p q r s = cc

-- ---- rings

module _ (rings : ℕ) (xs st orb : List Float) (dx dy : ℤ) where
  pub one_ring : rings ≡ 1 → refusal_line (refuse refused_few 1) ≡ rings_text rings xs st orb dx dy
  unfolding rings_text
  one_ring e = rw (eq-eqb rings 1 e)

  pub not_whole : (rings ≡ 1 → ⊥) → all_whole xs ≡ false → refusal_line (refuse refused_number 0) ≡ rings_text rings xs st orb dx dy
  unfolding rings_text
  not_whole n e = rw (ne_eqb rings 1 n, e)

  pub whole_rings : (rings ≡ 1 → ⊥) → all_whole xs ≡ true → pair_text (wholes st) (wholes orb) dx dy ≡ rings_text rings xs st orb dx dy
  unfolding rings_text
  whole_rings n e = rw (ne_eqb rings 1 n, e)

-- the number of rings and the test of their coordinates, otherwise said
pub same_rings : {k n : ℕ} (xs ys st orb : List Float) {u v dx dy : ℤ} → k ≡ n → all_whole xs ≡ all_whole ys → u ≡ dx → v ≡ dy
    → rings_text k xs st orb u v ≡ rings_text n ys st orb dx dy
unfolding rings_text
same_rings xs ys st orb p q r s = rw (p, q, r, s) refl

-- ---- the whole

pub too_short : (l : List ℕ) → length l < move_bytes → refusal_line (refuse refused_book 0) ≡ input_text l
unfolding input_text
too_short l h = rw (lt-ltb (length l) move_bytes h) refl

pub input_said : (l : List ℕ) {u v : ℤ} → move_bytes ≤ length l → u ≡ whole_word_at l 0 → v ≡ whole_word_at l 4
    → book_text (take (length l - move_bytes) (drop move_bytes l)) u v ≡ input_text l
unfolding input_text
input_said l h e f =
    let t = take_all (length l - move_bytes) (drop move_bytes l) (omega (arith, length-drop move_bytes l)) in
    rw (le-ltb (length l) move_bytes h, e, f, t) refl
