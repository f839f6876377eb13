-- The lines of a reason put into a room, one after the other. Assumes nothing.
use Prim.Native.Nat.{ℕ, ◌+◌, ◌*◌}
use mathlib.Core.Path.{◌≡◌, refl, sym}
use mathlib.Core.Bool.{Bool, true, false}
use mathlib.Core.List.{List, [], ◌∷◌, ◌++◌}
use native.Mathlib.Numerals.{add-one}
use lib.IntN.{ℤ}
use Rattle.print.specs.Digits.{decimal}
use Rattle.print.specs.Text.{Put, space, newline}
use Rattle.print.proofs.Puts.{empty, then, reads}
use Rattle.clear_move.specs.Shared.{has, line_count, ranges_to}
use Rattle.clear_move.specs.Lines.{field, reason_line, shared_line, first_line, shared_lines, lines_text}

-- a line, number by number
pub line_put : (ls : List ℤ) (j : ℕ) {a b c d e : List ℕ} {at k m n r : ℕ} → Put a at (field ls (4 * j) space) b k
    → Put b k (field ls (4 * j + 1) space) c m → Put c m (field ls (4 * j + 2) space) d n
    → Put d n (field ls (4 * j + 3) newline) e r → Put a at (reason_line ls j) e r
unfolding reason_line
line_put ls j w x y z = then w (then x (then y z))

-- what precedes it: "edges ", which, ": "
pub shared_put : (o : ℕ → ℕ) (ls : List ℤ) (m j : ℕ) {a b c d e : List ℕ} {at k n r t : ℕ}
    → Put a at (101 ∷ 100 ∷ 103 ∷ 101 ∷ 115 ∷ 32 ∷ []) b k → Put b k (ranges_to o m j m) c n → Put c n (58 ∷ 32 ∷ []) d r
    → Put d r (reason_line ls j) e t → Put a at (shared_line o ls m j) e t
unfolding shared_line
shared_put o ls m j w x y z = then w (then x (then y z))

module _ (o : ℕ → ℕ) (ls : List ℤ) (m : ℕ) where
  pub first_own : (j : ℕ) {x : Bool} → x ≡ has o j j → x ≡ true → shared_line o ls m j ≡ first_line o ls m j
  unfolding first_line
  first_own j e h = rw (← e, h)

  pub first_none : (j : ℕ) {x : Bool} → x ≡ has o j j → x ≡ false → [] ≡ first_line o ls m j
  unfolding first_line
  first_none j e h = rw (← e, h)

  -- the lines of the first edges
  pub no_line : (room : List ℕ) (at : ℕ) → Put room at (shared_lines o ls m 0) room at
  unfolding shared_lines
  no_line room at = empty room at

  pub line_more : (j : ℕ) {a b c : List ℕ} {at n r : ℕ} → Put a at (shared_lines o ls m j) b n → Put b n (first_line o ls m j) c r
      → Put a at (shared_lines o ls m (j + 1)) c r
  unfolding shared_lines
  line_more j p q =
      let s : shared_lines o ls m (j + 1) ≡ shared_lines o ls m j ++ first_line o ls m j = rw (add-one j) refl in
      reads (sym s) (then p q)

  -- how many there are, and all of them
  pub text_put : {a b c d e : List ℕ} {at k n r t : ℕ}
      → Put a at (99 ∷ 108 ∷ 101 ∷ 97 ∷ 114 ∷ 32 ∷ 108 ∷ 105 ∷ 110 ∷ 101 ∷ 115 ∷ 32 ∷ []) b k
      → Put b k (decimal (line_count o m)) c n → Put c n newline d r → Put d r (shared_lines o ls m m) e t
      → Put a at (lines_text o ls m) e t
  unfolding lines_text
  text_put w x y z = then w (then x (then y z))
