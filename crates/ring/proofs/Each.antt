-- A loop that tests one number after the other: what is left of the row decides; and a test that holds of each of a row holds at
-- each place. Assumes nothing.
use Prim.Native.Nat.{ℕ, zero, suc, ◌+◌, ◌-◌, ◌≤◌, ◌<◌}
use mathlib.Core.Path.{◌≡◌, refl}
use mathlib.Core.Logic.{◌⊎◌, inl, inr}
use mathlib.Core.Bool.{Bool, true, false, ◌&&◌}
use native.Mathlib.Nat.{eq-or-lt_of_le}
use native.Mathlib.Omega.{arith}
use native.Mathlib.Numerals.{add-one}
use Rattle.ring.specs.Each.{each}

module _ (p : ℕ → Bool) (k n : ℕ) where
  one_less : k < n → n - k ≡ suc (n - (k + 1))
  one_less h = omega arith

  pub each_on : k < n → p k ≡ true → each p k (n - k) ≡ each p (k + 1) (n - (k + 1))
  unfolding each
  each_on h t = rw (one_less h, t, add-one k)

  pub each_off : k < n → p k ≡ false → each p k (n - k) ≡ false
  unfolding each
  each_off h t = rw (one_less h, t)

  pub each_end : n ≤ k → each p k (n - k) ≡ true
  unfolding each
  each_end h = let e : n - k ≡ 0 = omega arith in rw e

-- ---- at each place

pub each_at : (p : ℕ → Bool) (k n i : ℕ) → each p k n ≡ true → k ≤ i → i < k + n → p i ≡ true
unfolding each
each_at p k zero i h l m = absurd (omega arith)
each_at p k (suc n) i h l m = go (p k) refl h (λ f g. each_at p (suc k) n i f g (omega arith)) (eq-or-lt_of_le l)
  where
    go : (b : Bool) → p k ≡ b → (b && each p (suc k) n) ≡ true → (each p (suc k) n ≡ true → k < i → p i ≡ true)
        → (k ≡ i) ⊎ (k < i) → p i ≡ true
    go true e f later (inl q) = rw (← q) e
    go true e f later (inr g) = later f g
    go false e f later q = cc
