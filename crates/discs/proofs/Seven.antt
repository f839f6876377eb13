-- What holds of each of the seven numbers of vertices in a quarter holds of all that are taken. Assumes nothing.
use Prim.Native.Nat.{ℕ, ◌≤◌}
use mathlib.Core.Path.{◌≡◌, sym, subst}
use mathlib.Core.Logic.{⊎_elim}
use mathlib.Core.Bool.{true}
use native.Mathlib.Omega.{arith}
use lib.Dec.{eqb}
use borrow.Author.Tests.{eqb-true}
use Rattle.laws.proofs.Both.{one_of}
use Rattle.discs.specs.Disc.{quarter_ok}

module _ (P : ℕ → Type 0) (m : ℕ) where
  one_is : (k : ℕ) → P k → eqb m k ≡ true → P m
  one_is k p t = subst P (sym (eqb-true m k t)) p

  pub of_seven : P 1 → P 2 → P 4 → P 8 → P 16 → P 32 → P 64 → quarter_ok m ≡ true → P m
  unfolding quarter_ok
  of_seven a b c d e f g h =
      ⊎_elim (one_is 1 a) (λ h2.
      ⊎_elim (one_is 2 b) (λ h4.
      ⊎_elim (one_is 4 c) (λ h8.
      ⊎_elim (one_is 8 d) (λ h16.
      ⊎_elim (one_is 16 e) (λ h32.
      ⊎_elim (one_is 32 f) (one_is 64 g)
      (one_of _ _ h32)) (one_of _ _ h16)) (one_of _ _ h8)) (one_of _ _ h4)) (one_of _ _ h2)) (one_of _ _ h)

-- a quarter has at most 64 vertices
pub quarter_most : (m : ℕ) → quarter_ok m ≡ true → m ≤ 64
quarter_most m h =
    of_seven (λ k. k ≤ 64) m (omega arith) (omega arith) (omega arith) (omega arith) (omega arith) (omega arith) (omega arith) h
