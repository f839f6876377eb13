-- The smaller and the larger of two whole numbers, and the absolute value of one. Assumes nothing.
use Prim.Native.Nat.{ℕ, zero, suc, ◌+◌, ◌≤◌, min, max}
use native.Mathlib.Omega.{arith}
use native.Mathlib.Nat.{eq_of_mul-eq-mul_right, le_of_mul-le-mul_right}
use mathlib.Core.Path.{◌≡◌, refl, sym, ◌∙◌, subst}
use mathlib.Core.Logic.{inl, inr}
use mathlib.Core.Bool.{Bool, true, false, ◌&&◌, cond, true≢false}
use lib.Ieee.{Float, nan, inf, fin, down, neg, lt}
use lib.Ieee.Fits.{down_pos}
use borrow.Author.Tests.{ltb-true, ltb-false}
use Rattle.laws.proofs.Both.{both, one_of}
use Rattle.scalar.specs.Scalar.{abs_of, minus_zero, ahead, or_number, smaller_of, larger_of}
use Rattle.whole_floats.specs.Whole.{Whole}
use Rattle.whole_floats.proofs.Exact.{whole_same, negated}
use Rattle.whole_floats.proofs.Compare.{is_less}

zero_is : (x : Float) (p q : ℕ) → Whole x p q → minus_zero x ≡ true → p ≡ q
unfolding minus_zero
zero_is nan p q h z = absurd h
zero_is (inf s) p q h z = absurd h
zero_is (fin true zero e) p q h z = eq_of_mul-eq-mul_right (down e) (down_pos e) p q (omega (arith, h))
zero_is (fin false zero e) p q h z = cc
zero_is (fin s (suc m) e) p q h z = cc

-- what comes first is not the larger, and what does not is not the smaller
ahead_is : (x y : Float) (p q r : ℕ) → Whole x p q → Whole y r q → ahead x y ≡ true → p ≤ r
unfolding ahead
ahead_is x y p q r h k a =
    elim (one_of (lt x y) (minus_zero x && minus_zero (neg y)) a) [
      | inl l ↦ let g = ltb-true (p + q) (r + q) (sym (is_less x y p q r q h k) ∙ l) in omega arith
      | inr z ↦
          let b = both (minus_zero x) (minus_zero (neg y)) z in
          let c = zero_is x p q h b.0 in
          let d = zero_is (neg y) q r (negated y r q k) b.1 in
          omega arith
    ]

behind_is : (x y : Float) (p q r : ℕ) → Whole x p q → Whole y r q → ahead x y ≡ false → r ≤ p
unfolding ahead
behind_is x y p q r h k a = by (lt x y) refl
  where
    by : (t : Bool) → lt x y ≡ t → r ≤ p
    by true l = absurd (true≢false (rw l at a))
    by false l = let g = ltb-false (p + q) (r + q) (sym (is_less x y p q r q h k) ∙ l) in omega arith

numbers : (x y z : Float) (p q r s : ℕ) → Whole x p q → Whole y r s → z ≡ or_number x y z
unfolding or_number
numbers nan y z p q r s h k = absurd h
numbers (inf t) y z p q r s h k = absurd h
numbers (fin t m e) nan z p q r s h k = absurd k
numbers (fin t m e) (inf u) z p q r s h k = absurd k
numbers (fin t m e) (fin u n d) z p q r s h k = refl

pub smaller : (x y : Float) (p q r : ℕ) → Whole x p q → Whole y r q → Whole (smaller_of x y) (min p r) q
unfolding smaller_of
smaller x y p q r h k = subst (λ (z : Float). Whole z (min p r) q) (numbers x y (cond (ahead y x) y x) p q r q h k) (by (ahead y x) refl)
  where
    by : (t : Bool) → ahead y x ≡ t → Whole (cond t y x) (min p r) q
    by true a = let l = ahead_is y x r q p k h a in whole_same y r q (min p r) q (omega arith) k
    by false a = let l = behind_is y x r q p k h a in whole_same x p q (min p r) q (omega arith) h

pub larger : (x y : Float) (p q r : ℕ) → Whole x p q → Whole y r q → Whole (larger_of x y) (max p r) q
unfolding larger_of
larger x y p q r h k = subst (λ (z : Float). Whole z (max p r) q) (numbers x y (cond (ahead x y) y x) p q r q h k) (by (ahead x y) refl)
  where
    by : (t : Bool) → ahead x y ≡ t → Whole (cond t y x) (max p r) q
    by true a = let l = ahead_is x y p q r h k a in whole_same y r q (max p r) q (omega arith) k
    by false a = let l = behind_is x y p q r h k a in whole_same x p q (max p r) q (omega arith) h

pub absolute : (x : Float) (p q : ℕ) → Whole x p q → Whole (abs_of x) (max p q) (min p q)
unfolding abs_of
absolute nan p q h = h
absolute (inf s) p q h = h
absolute (fin false m e) p q h =
    let l : q ≤ p = le_of_mul-le-mul_right {k = down e} (omega (arith, h)) (down_pos e) in
    whole_same (fin false m e) p q (max p q) (min p q) (omega arith) h
absolute (fin true m e) p q h =
    let l : p ≤ q = le_of_mul-le-mul_right {k = down e} (omega (arith, h)) (down_pos e) in
    whole_same (fin false m e) q p (max p q) (min p q) (omega arith) h
