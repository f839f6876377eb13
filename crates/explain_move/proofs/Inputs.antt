-- The parts of an input: its three words, and its book. Assumes nothing.
use Prim.Native.Nat.{ℕ, ◌-◌, ◌≤◌, ◌<◌}
use native.Mathlib.Omega.{arith}
use mathlib.Core.Path.{◌≡◌, refl}
use mathlib.Core.List.{List}
use lib.ListN.{length, take, drop, length-drop}
use lib.Seq.{take_all}
use lib.Ieee.{Float, binary64, of_bits}
use borrow.Author.Tests.{lt-ltb, le-ltb}
use Rattle.plane.specs.declared.Point.{Point}
use Rattle.plane.specs.Vector.{point}
use Rattle.lines.specs.Lines.{number_line}
use Rattle.pair_input.specs.Input.{words_bytes, word_at}
use Rattle.explain_move.specs.Said.{move_in, tolerance_in, explained_book_text, explain_text}

pub move_is : (l : List ℕ) {a b : Float} (x y : ℕ) → a ≡ of_bits binary64 x → x ≡ word_at l 0
    → b ≡ of_bits binary64 y → y ≡ word_at l 8 → point a b ≡ move_in l
move_is l x y p q r s = rw (p, q, r, s) refl

pub too_short : (l : List ℕ) → length l < words_bytes → number_line 1 ≡ explain_text l
unfolding explain_text
too_short l h = rw (lt-ltb (length l) words_bytes h) refl

pub input_said : (l : List ℕ) {p : Point} {t : Float} → words_bytes ≤ length l → p ≡ move_in l → t ≡ tolerance_in l
    → explained_book_text (take (length l - words_bytes) (drop words_bytes l)) p t ≡ explain_text l
unfolding explain_text
input_said l h e f =
    let t = take_all (length l - words_bytes) (drop words_bytes l) (omega (arith, length-drop words_bytes l)) in
    rw (le-ltb (length l) words_bytes h, e, f, t) refl
