-- Turns that go on where others stood, rows of turns as one row, and counts. Assumes nothing.
use Prim.Native.Nat.{ℕ, zero, suc, ◌+◌, ◌*◌, ◌/◌, ◌%◌, ◌≤◌, ◌<◌}
use native.Mathlib.Nat.{eq-or-lt_of_le, add-zero, add-suc, zero-mul, suc-mul, mul-add-div_right, mul-add-mod_self_right, div-eq_of_lt, mod-eq_of_lt}
use native.Mathlib.Numerals.{add-one}
use native.Mathlib.Omega.{arith}
use mathlib.Core.Path.{◌≡◌, refl, sym, ap, ◌∙◌}
use mathlib.Core.Logic.{inl, inr}
use mathlib.Core.Bool.{Bool, true, false, cond}
use Rattle.laws.specs.Turns.{turns, turn_rows, tally}

-- ---- turn by turn, and rows

module _ {S : Type 0} where
  -- a loop's turn, and a row's
  pub one_more : (step : S → ℕ → S) (from : S) (i : ℕ) {s t : S} → s ≡ turns step from i → t ≡ step s i → t ≡ turns step from (i + 1)
  unfolding turns
  one_more step from i h e = rw (e, h, add-one i)

  pub row_more : (step : S → ℕ → ℕ → S) (n : ℕ) (from : S) (i : ℕ) {s t : S} → s ≡ turn_rows step n from i → t ≡ turns (λ q k. step q i k) s n
      → t ≡ turn_rows step n from (i + 1)
  unfolding turn_rows
  row_more step n from i h e = rw (e, h, add-one i)

  -- the turns go on where they stood
  pub turns_split : (step : S → ℕ → S) (r : S) (a b : ℕ) → turns step r (a + b) ≡ turns (λ s k. step s (a + k)) (turns step r a) b
  unfolding turns
  turns_split step r a zero = rw add-zero
  turns_split step r a (suc b) = rw (add-suc, turns_split step r a b)

  pub turns_ext : (f g : S → ℕ → S) (r : S) (n : ℕ) → ((s : S) (k : ℕ) → k < n → f s k ≡ g s k) → turns f r n ≡ turns g r n
  unfolding turns
  turns_ext f g r zero h = refl
  turns_ext f g r (suc n) h = rw (turns_ext f g r n (λ s k l. h s k (omega arith)), h (turns g r n) n (omega arith))

-- the place of a turn of a row among all
pub in_row : (n o k : ℕ) → k < n → ((o * n + k) / n ≡ o) × ((o * n + k) % n ≡ k)
in_row n o k l =
    let h : 0 < n = omega arith in
    (mul-add-div_right h o k ∙ (rw (div-eq_of_lt l) (add-zero o)), mul-add-mod_self_right o n k ∙ mod-eq_of_lt l)

module _ {S : Type 0} (step : S → ℕ → ℕ → S) where
  -- the step of a turn's place among all
  abbrev pub flat_turns : ℕ → S → ℕ → S
  flat_turns n s k = step s (k / n) (k % n)

  -- m rows of n turns are m * n turns in one row
  pub rows_flat : (n : ℕ) (r : S) (m : ℕ) → turn_rows step n r m ≡ turns (flat_turns n) r (m * n)
  unfolding turn_rows turns
  rows_flat n r zero = rw zero-mul
  rows_flat n r (suc o) =
      ap (λ (q : S). turns (λ s k. step s o k) q n) (rows_flat n r o)
      ∙ turns_ext (λ s k. step s o k) (λ s k. flat_turns n s (o * n + k)) (turns (flat_turns n) r (o * n)) n (λ s k l. rw ((in_row n o k l).0, (in_row n o k l).1))
      ∙ sym (turns_split (flat_turns n) r (o * n) n)
      ∙ ap (turns (flat_turns n) r) (sym (suc-mul o n))

-- ---- counts

-- none passes
pub tally_none : (passes : ℕ → Bool) (n : ℕ) → ((k : ℕ) → k < n → passes k ≡ false) → tally passes n ≡ 0
unfolding tally
tally_none passes zero h = refl
tally_none passes (suc n) h = rw (tally_none passes n (λ k l. h k (omega arith)), h n (omega arith))

-- a number below n that passes
pub record Passing (passes : ℕ → Bool) (n : ℕ) : Type 0 where
  pub which : ℕ
  pub below : which < n
  pub does : passes which ≡ true

-- where the count is 0 none passes
pub none_passes : (passes : ℕ → Bool) (n : ℕ) → tally passes n ≡ 0 → (k : ℕ) → k < n → passes k ≡ false
unfolding tally
none_passes passes zero h k l = absurd (omega arith)
none_passes passes (suc n) h k l = go (passes n) refl (λ z q. none_passes passes n z k q) h
  where
    go : (b : Bool) → passes n ≡ b → (tally passes n ≡ 0 → k < n → passes k ≡ false) → tally passes n + cond b 1 0 ≡ 0 → passes k ≡ false
    go true e before z = absurd (omega arith)
    go false e before z =
        let m : k ≤ n = omega arith in
        elim (eq-or-lt_of_le m) [ inl q ↦ ap passes q ∙ e | inr q ↦ before (omega arith) q ]

-- and where it is not, one does
pub one_passes : (passes : ℕ → Bool) (n : ℕ) → (tally passes n ≡ 0 → ⊥) → Passing passes n
unfolding tally
one_passes passes zero h = absurd (h refl)
one_passes passes (suc n) h = go (passes n) refl (λ z. one_passes passes n z) h
  where
    go : (b : Bool) → passes n ≡ b → ((tally passes n ≡ 0 → ⊥) → Passing passes n) → (tally passes n + cond b 1 0 ≡ 0 → ⊥) → Passing passes (suc n)
    go true e before z = record { which = n; below = omega arith; does = e }
    go false e before z =
        let s = before (λ q. z (omega arith)) in
        record { which = s.which; below = omega (arith, s.below); does = s.does }

-- three tests of which one passes wherever a fourth does count together what it counts
pub tally_three : (p q r any : ℕ → Bool) (n : ℕ)
    → ((k : ℕ) → k < n → ◌≡◌ {A = ℕ} (cond (p k) 1 0 + cond (q k) 1 0 + cond (r k) 1 0) (cond (any k) 1 0))
    → tally p n + tally q n + tally r n ≡ tally any n
unfolding tally
tally_three p q r any zero h = refl
tally_three p q r any (suc n) h =
    let a = tally_three p q r any n (λ k l. h k (omega arith)) in
    let b = h n (omega arith) in
    omega arith
