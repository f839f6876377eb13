-- What each kind of contact has of its own. Assumes nothing.
use Prim.Native.Nat.{ℕ}
use mathlib.Core.Path.{◌≡◌, refl}
use mathlib.Core.Bool.{Bool, true, false, cond}
use lib.Dec.{eqb}
use borrow.Author.Tests.{eq-eqb, ne_eqb}
use Rattle.contacts.specs.Touching.{by_kind}

module _ {A : Type 0} (kd : ℕ) (a b c : A) where
  pub of_0 : kd ≡ 0 → by_kind kd a b c ≡ a
  of_0 h = rw (eq-eqb kd 0 h)

  pub of_1 : kd ≡ 1 → by_kind kd a b c ≡ b
  of_1 h = rw h

  pub of_2 : (kd ≡ 0 → ⊥) → (kd ≡ 1 → ⊥) → by_kind kd a b c ≡ c
  of_2 h k = rw (ne_eqb kd 0 h, ne_eqb kd 1 k)

-- kinds 0 and 2 have the same
pub but_1 : {A : Type 0} (kd : ℕ) (a b : A) → (kd ≡ 1 → ⊥) → by_kind kd a b a ≡ a
but_1 kd a b k = rw (ne_eqb kd 1 k) (either (eqb kd 0))
  where
    either : (t : Bool) → cond t a a ≡ a
    either true = refl
    either false = refl
