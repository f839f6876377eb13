-- The first number of a row that passes a test: a loop that looks for it, where what is left of the row decides; that it passes,
-- and none before it; and the same row counted or tested otherwise. Assumes nothing.
use Prim.Native.Nat.{ℕ, zero, suc, ◌+◌, ◌-◌, ◌≤◌, ◌<◌}
use native.Mathlib.Nat.{eq-or-lt_of_le}
use native.Mathlib.Numerals.{add-one}
use native.Mathlib.Omega.{arith}
use mathlib.Core.Path.{◌≡◌, refl, sym, subst, ◌∙◌}
use mathlib.Core.Logic.{⊎_elim}
use mathlib.Core.Bool.{Bool, true, false, cond}
use Rattle.reasons.specs.First.{first_from}

-- ---- a loop

module _ (t : ℕ → Bool) (n : ℕ) where
  -- the first of all is the first of those from k on
  pub record Rest (k : ℕ) : Type 0 where
    pub most : k ≤ n
    pub left : first_from t 0 n ≡ first_from t k (n - k)

  pub start : Rest 0
  start = let e : n - 0 ≡ n = omega arith in record { most = omega arith; left = rw e }

  module _ {k : ℕ} (R : Rest k) where
    one_less : k < n → n - k ≡ suc (n - (k + 1))
    one_less h = omega arith

    pub turn : {x : Bool} → k < n → x ≡ t k → x ≡ false → Rest (k + 1)
    unfolding first_from
    turn h e f = record { most = omega arith; left = R.left ∙ (rw (one_less h, ← e, f, add-one k)) }

    pub here : {x : Bool} → k < n → x ≡ t k → x ≡ true → k ≡ first_from t 0 n
    unfolding first_from
    here h e f = sym (R.left ∙ (rw (one_less h, ← e, f)))

    pub end : n ≤ k → k ≡ first_from t 0 n
    unfolding first_from
    end h = let e : n - k ≡ 0 = omega arith in sym (R.left ∙ (rw e))

-- ---- what it tells

pub first_most : (t : ℕ → Bool) (k n : ℕ) → first_from t k n ≤ k + n
unfolding first_from
first_most t k zero = omega arith
first_most t k (suc n) = go (t k) (first_most t (suc k) n)
  where
    go : (b : Bool) → first_from t (suc k) n ≤ suc k + n → cond b k (first_from t (suc k) n) ≤ k + suc n
    go true h = omega arith
    go false h = omega arith

-- it passes
pub first_passes : (t : ℕ → Bool) (k n : ℕ) → first_from t k n < k + n → t (first_from t k n) ≡ true
unfolding first_from
first_passes t k zero h = absurd (omega arith)
first_passes t k (suc n) h = go (t k) refl (first_passes t (suc k) n) h
  where
    go : (b : Bool) → t k ≡ b → (first_from t (suc k) n < suc k + n → t (first_from t (suc k) n) ≡ true)
        → cond b k (first_from t (suc k) n) < k + suc n → t (cond b k (first_from t (suc k) n)) ≡ true
    go true e rest h = e
    go false e rest h = rest (omega arith)

-- none before it does
pub none_before : (t : ℕ → Bool) (k n i : ℕ) → k ≤ i → i < first_from t k n → t i ≡ false
unfolding first_from
none_before t k zero i l h = absurd (omega arith)
none_before t k (suc n) i l h = go (t k) refl (none_before t (suc k) n i) h
  where
    go : (b : Bool) → t k ≡ b → (k < i → i < first_from t (suc k) n → t i ≡ false)
        → i < cond b k (first_from t (suc k) n) → t i ≡ false
    go true e rest h = absurd (omega arith)
    go false e rest h = ⊎_elim (λ q. subst (λ (j : ℕ). t j ≡ false) q e) (λ g. rest g h) (eq-or-lt_of_le l)

-- where none passes it is the one after them
pub none_first : (t : ℕ → Bool) (k n : ℕ) → ((i : ℕ) → k ≤ i → i < k + n → t i ≡ false) → first_from t k n ≡ k + n
unfolding first_from
none_first t k zero h = omega arith
none_first t k (suc n) h =
    rw (h k (omega arith) (omega arith))
    (let e = none_first t (suc k) n (λ i l m. h i (omega arith) (omega arith)) in omega arith)

-- ---- other rows

-- a row that starts one later
pub first_later : (t : ℕ → Bool) (k n : ℕ) → first_from t (suc k) n ≡ suc (first_from (λ i. t (suc i)) k n)
unfolding first_from
first_later t k zero = refl
first_later t k (suc n) = go (t (suc k)) (first_later t (suc k) n)
  where
    go : (b : Bool) → first_from t (suc (suc k)) n ≡ suc (first_from (λ i. t (suc i)) (suc k) n)
        → cond b (suc k) (first_from t (suc (suc k)) n) ≡ suc (cond b k (first_from (λ i. t (suc i)) (suc k) n))
    go true e = refl
    go false e = e

-- another test that says the same
pub first_same : (t u : ℕ → Bool) (k n : ℕ) → ((i : ℕ) → t i ≡ u i) → first_from t k n ≡ first_from u k n
unfolding first_from
first_same t u k zero h = refl
first_same t u k (suc n) h = rw (h k, first_same t u (suc k) n h)
