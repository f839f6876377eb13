-- What the tests of `abs`, `is_minus_zero`, `is_ahead`, `smaller` and `larger` tell of their values. Assumes nothing.
use Prim.Native.Nat.{ℕ, zero, suc, ◌^◌}
use mathlib.Core.Path.{◌≡◌, refl, sym, subst}
use mathlib.Core.Bool.{Bool, true, false, not}
use native.Mathlib.Omega.{arith}
use lib.Dec.{T, eqb}
use lib.Ieee.Compare.{differs_from_itself, nan_differs}
use lib.IntN.{pos}
use lib.Ieee.{Float, nan, inf, fin, binary64, lt, eq, ne, neg, fits, is_nan, of_bits, to_bits}
use Rattle.scalar.specs.Float.{f0}
use Rattle.scalar.specs.Scalar.{abs_of, minus_zero, ahead, or_number}
use Rattle.scalar.proofs.Zero.{minus_lt, plus_lt, zero_eq, some_eq, zero_at}

-- ---- the absolute value

pub abs_below : (x : Float) → lt x f0 ≡ true → neg x ≡ abs_of x
unfolding lt neg abs_of of_bits
abs_below nan h = refl
abs_below (inf true) h = refl
abs_below (inf false) h = cc
abs_below (fin true m e) h = refl
abs_below (fin false m e) h = cc (plus_lt m e)

pub abs_zero : (x : Float) → T (fits binary64 x) → eq x f0 ≡ true → f0 ≡ abs_of x
unfolding abs_of of_bits eq
abs_zero nan f h = cc
abs_zero (inf s) f h = cc
abs_zero (fin s zero e) f h = rw (zero_at s e f)
abs_zero (fin s (suc m) e) f h = cc (some_eq s m e)

pub abs_above : (x : Float) → lt x f0 ≡ false → eq x f0 ≡ false → x ≡ abs_of x
unfolding abs_of lt of_bits
abs_above nan h k = refl
abs_above (inf true) h k = cc
abs_above (inf false) h k = refl
abs_above (fin false m e) h k = refl
abs_above (fin true zero e) h k = cc (zero_eq true e)
abs_above (fin true (suc m) e) h k = cc (minus_lt m e)

-- ---- the zeros

pub no_nan : (x : Float) → eq x f0 ≡ true → T (not (is_nan x))
unfolding eq is_nan
no_nan nan h = absurd (let z : ◌≡◌ {A = ℕ} 0 1 = cc in omega arith)
no_nan (inf s) h = tt
no_nan (fin s m e) h = tt

-- a zero's bit pattern is 0 or the sign alone
pub minus_bits : to_bits binary64 (fin true 0 (pos 0)) ≡ 2 ^ 63
unfolding to_bits
minus_bits = refl

pub plus_bits : to_bits binary64 (fin false 0 (pos 0)) ≡ 0
unfolding to_bits
plus_bits = refl

pub minus_is : (x : Float) → T (fits binary64 x) → eq x f0 ≡ true → not (eqb (to_bits binary64 x) 0) ≡ minus_zero x
unfolding minus_zero eq of_bits
minus_is nan f h = cc
minus_is (inf s) f h = cc
minus_is (fin true zero e) f h = rw (zero_at true e f, minus_bits)
minus_is (fin false zero e) f h = rw (zero_at false e f, plus_bits)
minus_is (fin s (suc m) e) f h = cc (some_eq s m e)

-- what does not equal 0.0 is not -0.0
pub no_zero : (x : Float) → eq x f0 ≡ false → minus_zero x ≡ false
unfolding minus_zero
no_zero nan h = refl
no_zero (inf s) h = refl
no_zero (fin s zero e) h = cc (zero_eq s e)
no_zero (fin s (suc m) e) h = refl

-- ---- which comes first

pub ahead_less : (a b : Float) → lt a b ≡ true → true ≡ ahead a b
unfolding ahead
ahead_less a b h = rw h

pub ahead_zeros : (a b : Float) {p : Bool} → lt a b ≡ false → true ≡ minus_zero a → p ≡ minus_zero (neg b) → p ≡ ahead a b
unfolding ahead
ahead_zeros a b h m q = rw (h, ← m, q)

pub ahead_none : (a b : Float) → lt a b ≡ false → false ≡ minus_zero a → false ≡ ahead a b
unfolding ahead
ahead_none a b h m = rw (h, ← m)

-- ---- NaN

pub first_nan : (a b c : Float) → ne a a ≡ true → b ≡ or_number a b c
unfolding or_number
first_nan a b c h = rw (differs_from_itself a (subst T (sym h) tt))

pub second_nan : (a b c : Float) → ne a a ≡ false → ne b b ≡ true → a ≡ or_number a b c
unfolding or_number
second_nan a b c h k = rw (differs_from_itself b (subst T (sym k) tt)) (go a)
  where
    go : (a : Float) → a ≡ or_number a nan c
    go nan = refl
    go (inf s) = refl
    go (fin s m e) = refl

pub numbers : (a b c : Float) → ne a a ≡ false → ne b b ≡ false → c ≡ or_number a b c
unfolding or_number
numbers nan b c h k = cc nan_differs
numbers (inf s) nan c h k = cc nan_differs
numbers (fin s m e) nan c h k = cc nan_differs
numbers (inf s) (inf t) c h k = refl
numbers (inf s) (fin t n d) c h k = refl
numbers (fin s m e) (inf t) c h k = refl
numbers (fin s m e) (fin t n d) c h k = refl
