-- Every edge is listed with its own line: the first edge with it has the same line, and is the first with that. Assumes nothing.
use Prim.Native.Nat.{ℕ, ◌+◌, ◌*◌, ◌≤◌, ◌<◌}
use native.Mathlib.Nat.{eq-or-lt_of_le}
use native.Mathlib.Omega.{arith}
use mathlib.Core.Path.{◌≡◌, refl, sym, subst, ap, ◌∙◌}
use mathlib.Core.Logic.{⊎_elim}
use mathlib.Core.Bool.{true, true≢false}
use mathlib.Core.List.{List}
use lib.ListN.{get_or}
use lib.IntN.{ℤ, pos, negsuc}
use borrow.Author.Tests.{eqb-true, eq-eqb}
use Rattle.laws.proofs.Both.{both}
use Rattle.reasons.proofs.First.{first_most, first_passes, none_before}
use Rattle.clear_move.specs.Shared.{same_whole, same_number, same_line, owner}

-- ---- numbers that are the same

whole_same : (x y : ℤ) → same_whole x y ≡ true → x ≡ y
unfolding same_whole
whole_same (pos m) (pos n) h = ap pos (eqb-true m n h)
whole_same (pos m) (negsuc n) h = absurd (true≢false (sym h))
whole_same (negsuc m) (pos n) h = absurd (true≢false (sym h))
whole_same (negsuc m) (negsuc n) h = ap negsuc (eqb-true m n h)

same_whole_lem : (x : ℤ) → same_whole x x ≡ true
unfolding same_whole
same_whole_lem (pos m) = eq-eqb m m refl
same_whole_lem (negsuc m) = eq-eqb m m refl

-- ---- lines that are the same

module _ (ls : List ℤ) where
  abbrev Four : ℕ → ℕ → Type 0
  Four i j =
      (get_or ls (4 * i) (pos 0) ≡ get_or ls (4 * j) (pos 0)) × (get_or ls (4 * i + 1) (pos 0) ≡ get_or ls (4 * j + 1) (pos 0))
      × (get_or ls (4 * i + 2) (pos 0) ≡ get_or ls (4 * j + 2) (pos 0)) × (get_or ls (4 * i + 3) (pos 0) ≡ get_or ls (4 * j + 3) (pos 0))

  pub line_same : (i j : ℕ) → same_line ls i j ≡ true → Four i j
  unfolding same_line
  line_same i j h =
      let a = both (same_number ls (4 * i) (4 * j)) _ h in
      let b = both (same_number ls (4 * i + 1) (4 * j + 1)) _ a.1 in
      let c = both (same_number ls (4 * i + 2) (4 * j + 2)) (same_number ls (4 * i + 3) (4 * j + 3)) b.1 in
      (whole_same _ _ a.0, whole_same _ _ b.0, whole_same _ _ c.0, whole_same _ _ c.1)

  same_line_lem : (i j : ℕ) → Four i j → same_line ls i j ≡ true
  unfolding same_line
  same_line_lem i j f =
      rw (
        f.0,
        f.1,
        f.2,
        f.3,
        same_whole_lem (get_or ls (4 * j) (pos 0)),
        same_whole_lem (get_or ls (4 * j + 1) (pos 0)),
        same_whole_lem (get_or ls (4 * j + 2) (pos 0)),
        same_whole_lem (get_or ls (4 * j + 3) (pos 0)),
      )

  -- ---- the first edge with a line

  no_later : (k : ℕ) → owner ls k ≤ k
  unfolding owner
  no_later k = let h = first_most (λ i. same_line ls i k) 0 k in omega arith

  pub first_has_it : (k : ℕ) → same_line ls (owner ls k) k ≡ true
  unfolding owner
  first_has_it k =
      ⊎_elim
      (λ q. subst (λ (i : ℕ). same_line ls i k ≡ true) (sym q) (same_line_lem k k (refl, refl, refl, refl)))
      (λ q. first_passes (λ i. same_line ls i k) 0 k (omega arith))
      (eq-or-lt_of_le (no_later k))

  -- none before it has
  none_has : (k i : ℕ) → i < owner ls k → same_line ls i k ≡ true → ⊥
  unfolding owner
  none_has k i h e = true≢false (sym e ∙ none_before (λ i. same_line ls i k) 0 k i (omega arith) h)

  pub first_of_first : (k : ℕ) → owner ls (owner ls k) ≡ owner ls k
  first_of_first k =
      let i = owner ls k in
      let a = line_same (owner ls i) i (first_has_it i) in
      let b = line_same i k (first_has_it k) in
      ⊎_elim
      (λ q. q)
      (λ q. absurd (none_has k (owner ls i) q (same_line_lem (owner ls i) k (a.0 ∙ b.0, a.1 ∙ b.1, a.2 ∙ b.2, a.3 ∙ b.3))))
      (eq-or-lt_of_le (no_later i))
