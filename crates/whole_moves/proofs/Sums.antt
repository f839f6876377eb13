-- The sum of two numbers that fit an i32 fits an i64, and is what the machine has. Assumes nothing.
use Prim.Native.Nat.{ℕ, suc, ◌-◌, ◌≤◌}
use native.Mathlib.Omega.{arith}
use mathlib.Core.Path.{◌≡◌, sym, ap, subst, ◌∙◌}
use mathlib.Core.Bool.{Bool, true, false, cond}
use lib.Dec.{ltb}
use lib.IntN.{ℤ, pos, negsuc, ◌+ℤ◌}
use mir.Syntax.{w32, w64}
use mir.Val.{to_z, of_z, SFits}
use mir.Facts.{sfits_widen}
use mir.ValLaws.{to_z-of_z}

less_fits : (a b : ℕ) → a ≤ 4294967296 → b ≤ 4294967296 → SFits w64 (cond (ltb a b) (negsuc (b - suc a)) (pos (a - b)))
less_fits a b h k = go (ltb a b)
  where
    go : (t : Bool) → SFits w64 (cond t (negsuc (b - suc a)) (pos (a - b)))
    go true = record { sfits = omega arith }
    go false = record { sfits = omega arith }

pub sum_fits : (z d : ℤ) → SFits w32 z → SFits w32 d → SFits w64 (z +ℤ d)
sum_fits (pos a) (pos b) f g = record { sfits = omega (arith, f.sfits, g.sfits) }
sum_fits (pos a) (negsuc b) f g = less_fits a (suc b) (omega (arith, f.sfits)) (omega (arith, g.sfits))
sum_fits (negsuc a) (pos b) f g = less_fits b (suc a) (omega (arith, g.sfits)) (omega (arith, f.sfits))
sum_fits (negsuc a) (negsuc b) f g = record { sfits = omega (arith, f.sfits, g.sfits) }

module _ {z : ℤ} (f : SFits w32 z) where
  pub widens : SFits w64 (to_z w32 (of_z w32 z))
  widens = subst (SFits w64) (sym (to_z-of_z w32 z f)) (sfits_widen tt f)

  pub widened : to_z w64 (of_z w64 (to_z w32 (of_z w32 z))) ≡ z
  widened = ap (λ (y : ℤ). to_z w64 (of_z w64 y)) (to_z-of_z w32 z f) ∙ to_z-of_z w64 z (sfits_widen tt f)

pub sum_is : {z d : ℤ} → SFits w32 z → SFits w32 d
    → to_z w64 (of_z w64 (to_z w32 (of_z w32 z))) +ℤ to_z w64 (of_z w64 (to_z w32 (of_z w32 d))) ≡ z +ℤ d
sum_is f g = rw (widened f, widened g)

-- the sum that was answered, as the machine has it
pub stands : {z d r : ℤ} → SFits w32 z → SFits w32 d → r ≡ to_z w32 (of_z w32 z) +ℤ to_z w32 (of_z w32 d) → to_z w64 (of_z w64 r) ≡ z +ℤ d
stands {z} {d} f g e =
    let s : to_z w32 (of_z w32 z) +ℤ to_z w32 (of_z w32 d) ≡ z +ℤ d = rw (to_z-of_z w32 z f, to_z-of_z w32 d g) in
    ap (λ (y : ℤ). to_z w64 (of_z w64 y)) (e ∙ s) ∙ to_z-of_z w64 _ (sum_fits z d f g)
