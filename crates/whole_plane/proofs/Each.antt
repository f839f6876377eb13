-- A test that holds of each number of a row holds of every one, and the other way round. Assumes nothing.
use Prim.Native.Nat.{ℕ, zero, suc, ◌+◌, ◌≤◌, ◌<◌}
use native.Mathlib.Omega.{arith}
use native.Mathlib.Nat.{eq-or-lt_of_le}
use mathlib.Core.Path.{◌≡◌, refl, subst}
use mathlib.Core.Logic.{⊎_elim}
use mathlib.Core.Bool.{Bool, true}
use Rattle.laws.proofs.Both.{both}
use Rattle.ring.specs.Each.{each}

pub each_every : (p : ℕ → Bool) (k n : ℕ) → each p k n ≡ true → (i : ℕ) → k ≤ i → i < k + n → p i ≡ true
unfolding each
each_every p k zero h i l m = absurd (omega arith)
each_every p k (suc n) h i l m =
    let t = both (p k) (each p (suc k) n) h in
    ⊎_elim (λ e. subst (λ (j : ℕ). p j ≡ true) e t.0) (λ g. each_every p (suc k) n t.1 i g (omega arith)) (eq-or-lt_of_le l)

pub every_each : (p : ℕ → Bool) (k n : ℕ) → ((i : ℕ) → k ≤ i → i < k + n → p i ≡ true) → each p k n ≡ true
unfolding each
every_each p k zero h = refl
every_each p k (suc n) h = rw (h k (omega arith) (omega arith), every_each p (suc k) n (λ i l m. h i (omega arith) (omega arith)))
