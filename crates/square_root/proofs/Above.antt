-- The bit pattern of a value above zero: it is not 0, and only the infinity's is 2047 * 2 ^ 52 or more. So a value that
-- is finite and above zero is `val` of its pattern, in units. Assumes nothing.
use mathlib.Core.Path.{◌≡◌, refl, sym, ap, ◌∙◌, subst}
use mathlib.Core.Logic.{inl, inr}
use mathlib.Core.Bool.{Bool, true, false, cond}
use Prim.Native.Nat.{ℕ, zero, suc, ◌+◌, ◌*◌, ◌/◌, ◌%◌, ◌^◌, ◌≤◌, ◌<◌}
use native.Mathlib.Omega.{arith}
use native.Mathlib.Nat.{lt_of_not-le, le_antisymm, eq-zero-or-pos}
use lib.Dec.{T, eqb}
use lib.Pow.{pow_pos}
use borrow.Author.Tests.{le-leb, ltb-false}
use lib.Ieee.{Float, nan, inf, fin, binary64, odd, fits, of_fields, of_bits, to_bits, lt}
use lib.Ieee.Bits.{of_bits-to_bits}
use lib.Ieee.Exact.{HasValue}
use lib.Ieee.Positive.{positive, above}
use Rattle.laws.proofs.Order.{lt_infinity}
use Rattle.square_root.specs.Nearest.{val}
use Rattle.square_root.proofs.Numbers.{lt_or_le}
use Rattle.square_root.proofs.Values.{val_le_back}
use Rattle.square_root.proofs.Patterns.{by_fields, read}
use Rattle.square_root.proofs.Compare.{number_or_infinite, lt_units}

-- ---- what a pattern's value is, where it is above zero

minus_odd : (d q k l : ℕ) → above (odd d true q k l) ≡ false
unfolding odd
minus_odd d zero k l = refl
minus_odd d (suc q) k l = refl

minus_fields : (x t : ℕ) → above (of_fields binary64 true x t) ≡ false
unfolding of_fields
minus_fields zero t = minus_odd 53 t 0 1074
minus_fields (suc x) t = by (eqb (suc x) 2047) (eqb t 0)
  where
    by : (a b : Bool) → above (cond a (cond b (inf true) nan) (odd 53 true (2 ^ 52 + t) x 1074)) ≡ false
    by true true = refl
    by true false = refl
    by false b = minus_odd 53 (2 ^ 52 + t) x 1074

-- a pattern with the sign set
minus_bits : (b : ℕ) → 2 ^ 63 ≤ b → above (of_bits binary64 b) ≡ false
unfolding of_bits
minus_bits b h = rw (le-leb (2 ^ 63) b h) (minus_fields (b % 2 ^ 63 / 2 ^ 52) (b % 2 ^ 52))

-- a pattern whose exponent's field is all ones
at_top : (t : ℕ) → T (above (of_fields binary64 false 2047 t)) → of_fields binary64 false 2047 t ≡ inf false
unfolding of_fields
at_top t = by (eqb t 0)
  where
    by : (a : Bool) → T (above (cond a (inf false) nan)) → cond a (inf false) nan ≡ inf false
    by true h = refl
    by false h = absurd h

top_bits : (b : ℕ) → 2047 * 2 ^ 52 ≤ b → T (above (of_bits binary64 b)) → of_bits binary64 b ≡ inf false
top_bits b lo a = elim (lt_or_le b (2 ^ 63)) [ inl l ↦ plus l | inr g ↦ absurd (subst T (minus_bits b g) a) ]
  where
    plus : b < 2 ^ 63 → of_bits binary64 b ≡ inf false
    plus l =
        let e = by_fields b 2047 (b % 2 ^ 52) l (omega arith) refl in
        e ∙ at_top (b % 2 ^ 52) (subst (λ (v : Float). T (above v)) e a)

zero_bits : T (above (of_bits binary64 0)) → ⊥
unfolding of_bits
zero_bits h = h

-- ---- from the value to its pattern

module _ (x : Float) (F : T (fits binary64 x)) (A : T (above x)) where
  again : T (above (of_bits binary64 (to_bits binary64 x)))
  again = rw (of_bits-to_bits binary64 x F) A

  pub above_pos : 0 < to_bits binary64 x
  above_pos =
      elim (eq-zero-or-pos (to_bits binary64 x)) [ inl e ↦ absurd (zero_bits (rw e at again)) | inr h ↦ h ]

  pub above_top : 2047 * 2 ^ 52 ≤ to_bits binary64 x → x ≡ inf false
  above_top h = sym (of_bits-to_bits binary64 x F) ∙ top_bits (to_bits binary64 x) h again

-- ---- a value that is finite and above zero

is_above : (x : Float) → T (positive x) → T (above x)
is_above nan p = absurd p
is_above (inf s) p = absurd p
is_above (fin true m e) p = absurd p
is_above (fin false m e) p = p

module _ (x : Float) (F : T (fits binary64 x)) (P : T (positive x)) where
  pub bits_pos : 0 < to_bits binary64 x
  bits_pos = above_pos x F (is_above x P)

  pub bits_lt : to_bits binary64 x < 2047 * 2 ^ 52
  bits_lt =
      lt_of_not-le
      (λ (g : 2047 * 2 ^ 52 ≤ to_bits binary64 x).
      subst (λ (v : Float). T (positive v)) (above_top x F (is_above x P) g) P)

  pub value_is : HasValue x false (val (to_bits binary64 x)) (2 ^ 1074)
  value_is = rw (of_bits-to_bits binary64 x F) at (read (to_bits binary64 x) bits_lt)

-- ---- two values above zero of which neither is below the other are the same

pub same_above : (r s : Float) → T (fits binary64 r) → T (fits binary64 s) → T (above r) → T (above s) → lt r s ≡ false
    → lt s r ≡ false → r ≡ s
same_above r s F G A B h k =
    elim (number_or_infinite r A) [
      | inl P ↦ elim (number_or_infinite s B) [ inl Q ↦ numbers P Q | inr f ↦ cc (lt_infinity r P) ]
      | inr e ↦ elim (number_or_infinite s B) [ inl Q ↦ cc (lt_infinity s Q) | inr f ↦ cc ]
    ]
  where
    not_less : (x y : Float) → T (fits binary64 x) → T (fits binary64 y) → T (positive x) → T (positive y)
        → lt x y ≡ false → to_bits binary64 y ≤ to_bits binary64 x
    not_less x y f g p q l =
        let a = val (to_bits binary64 x) in
        let b = val (to_bits binary64 y) in
        let e = lt_units x y a b (2 ^ 1074) (pow_pos 1074) (value_is x f p) (value_is y g q) in
        val_le_back (ltb-false a b (sym e ∙ l))

    numbers : T (positive r) → T (positive s) → r ≡ s
    numbers P Q =
        sym (of_bits-to_bits binary64 r F)
        ∙ ap (of_bits binary64) (le_antisymm (not_less s r G F Q P k) (not_less r s F G P Q h))
        ∙ of_bits-to_bits binary64 s G
