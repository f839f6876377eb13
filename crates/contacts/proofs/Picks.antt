-- What is left of the numbers of which a test holds, from one number on. Assumes nothing.
use Prim.Native.Nat.{ℕ, zero, suc, ◌+◌, ◌-◌, ◌≤◌, ◌<◌}
use mathlib.Core.Path.{◌≡◌, refl, ◌∙◌}
use mathlib.Core.Bool.{Bool, true, false}
use mathlib.Core.List.{List, [], ◌∷◌}
use native.Mathlib.Omega.{arith}
use native.Mathlib.Numerals.{add-one}
use Rattle.contacts.specs.Contacts.{picks, first_contact}
use Rattle.std.specs.Prelude.{Some, None}

module _ (p : ℕ → Bool) (n : ℕ) where
  one_less : (k : ℕ) → k < n → n - k ≡ suc (n - (k + 1))
  one_less k h = omega arith

  pub picks_on : (k : ℕ) → k < n → p k ≡ true → picks p k (n - k) ≡ k ∷ picks p (k + 1) (n - (k + 1))
  unfolding picks
  picks_on k h t = rw (one_less k h, t, add-one k)

  pub picks_off : (k : ℕ) → k < n → p k ≡ false → picks p k (n - k) ≡ picks p (k + 1) (n - (k + 1))
  unfolding picks
  picks_off k h t = rw (one_less k h, t, add-one k)

  pub picks_end : (k : ℕ) → n ≤ k → picks p k (n - k) ≡ []
  unfolding picks
  picks_end k h = let e : n - k ≡ 0 = omega arith in rw e

  -- the first of them is j
  pub record Found (k j : ℕ) : Type 0 where
    pub least : k ≤ j
    pub below : j < n
    pub holds : p j ≡ true
    pub then : picks p k (n - k) ≡ j ∷ picks p (j + 1) (n - (j + 1))

  pub found : (k j : ℕ) → first_contact (picks p k (n - k)) ≡ Some j → Found k j
  found k j e = go (n - k) k refl e
    where
      by : (b : Bool) (k : ℕ) → k < n → p k ≡ b → first_contact (picks p k (n - k)) ≡ Some j → (first_contact (picks p (k + 1) (n - (k + 1))) ≡ Some j → Found (k + 1) j) → Found k j
      by true k l t e more =
          let q : k ≡ j = cc (picks_on k l t) in
          rw (← q) (record { least = omega arith; below = l; holds = t; then = picks_on k l t })
      by false k l t e more =
          let f = more (rw (picks_off k l t) at e) in
          record { least = omega (arith, f.least); below = f.below; holds = f.holds; then = picks_off k l t ∙ f.then }

      go : (more k : ℕ) → n - k ≡ more → first_contact (picks p k (n - k)) ≡ Some j → Found k j
      go zero k z e = absurd (let q : ◌≡◌ {A = ℕ} 0 1 = cc (picks_end k (omega arith)) in omega arith)
      go (suc more) k z e = by (p k) k (omega arith) refl e (go more (k + 1) (omega arith))

  pub none_left : (k : ℕ) → first_contact (picks p k (n - k)) ≡ None → picks p k (n - k) ≡ []
  none_left k e = go (picks p k (n - k)) refl e
    where
      go : (l : List ℕ) → picks p k (n - k) ≡ l → first_contact l ≡ None → l ≡ []
      go [] q z = refl
      go (j ∷ l) q z = cc
