-- The kinds of value: how a zero, an infinity and a value that is finite and above zero compare, what the tests of
-- `sqrt` tell of x, and the root of whatever is not finite and above zero. Assumes nothing.
use mathlib.Core.Path.{◌≡◌, refl, sym, ◌∙◌, subst}
use mathlib.Core.Logic.{◌⊎◌, inl, inr}
use mathlib.Core.Bool.{Bool, true, false, not, beq, or-true, true≢false}
use Prim.Native.Nat.{ℕ, zero, suc, ◌+◌, ◌*◌, ◌≤◌, ◌<◌}
use native.Mathlib.Omega.{arith}
use native.Mathlib.Nat.{zero-lt-suc, mul-pos, lt_of_not-le, not-le_of_lt, mul-le-mul_right, le_of_mul-le-mul_right}
use lib.IntN.{ℤ, pos}
use lib.Dec.{T, ltb, lt→ltb}
use borrow.Author.Tests.{lt-ltb, le-ltb, eq-eqb, ne_eqb}
use lib.Ieee.{Float, nan, inf, fin, binary64, up, down, is_nan, of_bits, lt, eq, le, div}
use lib.Ieee.Fits.{up_pos, down_pos}
use lib.Ieee.Exact.{HasValue}
use lib.Ieee.Order.{transfer}
use lib.Ieee.Positive.{positive, above}
use Rattle.laws.proofs.Order.{le_of_lt}
use Rattle.square_root.specs.Root.{sqrt_of}
use Rattle.square_root.proofs.Numbers.{lt_or_le}

-- ---- a zero beside a zero, and beside a number that is none

some : (m : ℕ) (d e : ℤ) → 0 < suc m * up d * down e
some m d e = mul-pos (mul-pos (zero-lt-suc m) (up_pos d)) (down_pos e)

pub zero_lt : (s : Bool) (e : ℤ) (y : Float) → T (positive y) → lt (fin s 0 e) y ≡ true
unfolding lt
zero_lt s e nan p = absurd p
zero_lt s e (inf t) p = absurd p
zero_lt s e (fin true m d) p = absurd p
zero_lt s e (fin false zero d) p = absurd p
zero_lt false e (fin false (suc m) d) p =
    let h = some m d e in
    lt-ltb (0 * up e * down d) (suc m * up d * down e) (omega arith)
zero_lt true e (fin false (suc m) d) p =
    let h = some m d e in
    lt-ltb 0 (0 * up e * down d + suc m * up d * down e) (omega arith)

zero_lt_zero : (e d : ℤ) → lt (fin false 0 e) (fin false 0 d) ≡ false
unfolding lt
zero_lt_zero e d = le-ltb (0 * up e * down d) (0 * up d * down e) (omega arith)

minus_lt : (m : ℕ) (e d : ℤ) → lt (fin true (suc m) e) (fin false 0 d) ≡ true
unfolding lt
minus_lt m e d = let h = some m e d in lt-ltb 0 (suc m * up e * down d + 0 * up d * down e) (omega arith)

zero_le_minus : (s : Bool) (e : ℤ) (m : ℕ) (d : ℤ) → le (fin s 0 e) (fin true (suc m) d) ≡ false
unfolding le
zero_le_minus false e m d =
    let h = some m d e in
    simp (ne_eqb (0 * up e * down d) (suc m * up d * down e) (λ q. omega arith))
zero_le_minus true e m d =
    let h = some m d e in
    simp (
      le-ltb (suc m * up d * down e) (0 * up e * down d) (omega arith),
      ne_eqb (0 * up e * down d) (suc m * up d * down e) (λ q. omega arith),
    )

zero_eq : (s t : Bool) (e d : ℤ) → eq (fin s 0 e) (fin t 0 d) ≡ true
unfolding eq
zero_eq s t e d =
    simp (
      eq-eqb (0 * up e * down d) (0 * up d * down e) (omega arith),
      eq-eqb (0 * up e * down d) 0 (omega arith),
      or-true (beq s t),
    )

some_eq : (s t : Bool) (m : ℕ) (e d : ℤ) → eq (fin s (suc m) e) (fin t 0 d) ≡ false
unfolding eq
some_eq s t m e d =
    let h = some m e d in
    simp (ne_eqb (suc m * up e * down d) (0 * up d * down e) (λ q. omega arith))

le_of_level : (x y : Float) → eq x y ≡ true → T (le x y)
unfolding le
le_of_level x y h = rw (h, or-true (lt x y)) tt

-- ---- what is not negative: a zero, a value that is finite and above zero, or the infinity

is_number : (m : ℕ) → T (ltb 0 (suc m))
is_number m = lt→ltb 0 (suc m) (zero-lt-suc m)

pub data Kind : Float → Type 0 where
  a_zero : (s : Bool) (e : ℤ) → Kind (fin s 0 e)
  a_number : {x : Float} → T (positive x) → Kind x
  infinite : Kind (inf false)

pub kind : (s : Bool) (e : ℤ) (x : Float) → T (le (fin s 0 e) x) → Kind x
unfolding le
kind s e nan h = absurd h
kind s e (inf true) h = absurd h
kind s e (inf false) h = infinite
kind s e (fin t zero d) h = a_zero t d
kind s e (fin true (suc m) d) h = absurd (subst T (zero_le_minus s e m d) h)
kind s e (fin false (suc m) d) h = a_number (is_number m)

pub number_or_infinite : (x : Float) → T (above x) → T (positive x) ⊎ (x ≡ inf false)
number_or_infinite nan h = absurd h
number_or_infinite (inf true) h = absurd h
number_or_infinite (inf false) h = inr refl
number_or_infinite (fin true m e) h = absurd h
number_or_infinite (fin false m e) h = inl h

-- what is not below zero
pub nan_or_not_less : (x : Float) → lt x (of_bits binary64 0) ≡ false → (x ≡ nan) ⊎ T (le (fin false 0 (pos 0)) x)
unfolding lt le of_bits
nan_or_not_less nan h = inl refl
nan_or_not_less (inf true) h = absurd (true≢false h)
nan_or_not_less (inf false) h = inr tt
nan_or_not_less (fin s zero e) h = inr (le_of_level (fin false 0 (pos 0)) (fin s 0 e) (zero_eq false s (pos 0) e))
nan_or_not_less (fin true (suc m) e) h = absurd (true≢false (sym (minus_lt m e (pos 0)) ∙ h))
nan_or_not_less (fin false (suc m) e) h =
    let x = fin false (suc m) e in
    inr (le_of_lt (fin false 0 (pos 0)) x (zero_lt false (pos 0) x (is_number m)))

-- ---- two values that are not negative, by their sizes a / l and b / l

pub lt_units : (x y : Float) (a b l : ℕ) → 0 < l → HasValue x false a l → HasValue y false b l → lt x y ≡ ltb a b
unfolding lt
lt_units nan y a b l L h k = absurd h
lt_units (inf s) y a b l L h k = absurd h
lt_units (fin true m e) y a b l L h k = absurd (true≢false h.0)
lt_units (fin false m e) nan a b l L h k = absurd k
lt_units (fin false m e) (inf t) a b l L h k = absurd k
lt_units (fin false m e) (fin true n d) a b l L h k = absurd (true≢false k.0)
lt_units (fin false m e) (fin false n d) a b l L h k =
    elim (lt_or_le a b) [
      | inl u ↦ lt-ltb (m * up e * down d) (n * up d * down e) (less u) ∙ sym (lt-ltb a b u)
      | inr g ↦ le-ltb (m * up e * down d) (n * up d * down e) (more g) ∙ sym (le-ltb a b g)
    ]
  where
    more : b ≤ a → n * up d * down e ≤ m * up e * down d
    more g = transfer (n * up d) (m * up e) (down d) (down e) b a l l L L k.1 h.1 (mul-le-mul_right l g)

    less : a < b → m * up e * down d < n * up d * down e
    less u =
        lt_of_not-le
        (λ (g : n * up d * down e ≤ m * up e * down d).
        not-le_of_lt u
        (le_of_mul-le-mul_right
        (transfer b a l l (n * up d) (m * up e) (down d) (down e) (down_pos d) (down_pos e) (sym k.1) (sym h.1) g)
        L))

-- ---- the tests of `sqrt`

pub above_zero : (x : Float) → lt (of_bits binary64 0) x ≡ true → T (above x)
unfolding lt of_bits
above_zero nan h = absurd (true≢false (sym h))
above_zero (inf true) h = absurd (true≢false (sym h))
above_zero (inf false) h = tt
above_zero (fin true m e) h = absurd (true≢false (sym h))
above_zero (fin false zero e) h = absurd (true≢false (sym h ∙ zero_lt_zero (pos 0) e))
above_zero (fin false (suc m) e) h = is_number m

pub above_no_nan : (x : Float) → T (above x) → T (not (is_nan x))
unfolding is_nan
above_no_nan nan h = absurd h
above_no_nan (inf s) h = tt
above_no_nan (fin s m e) h = tt

-- ---- the roots of what is not finite and above zero

pub sqrt_infinity : sqrt_of binary64 (inf false) ≡ inf false
unfolding sqrt_of
sqrt_infinity = refl

pub sqrt_zero : (s : Bool) (e : ℤ) → sqrt_of binary64 (fin s 0 e) ≡ fin s 0 e
unfolding sqrt_of
sqrt_zero s e = refl

pub root_of_infinity : (x : Float) → x ≡ inf false → x ≡ sqrt_of binary64 x
root_of_infinity x e = rw (e, sqrt_infinity)

pub root_of_zero : (x : Float) → eq x (of_bits binary64 0) ≡ true → x ≡ sqrt_of binary64 x
unfolding eq of_bits sqrt_of
root_of_zero nan h = cc
root_of_zero (inf s) h = cc
root_of_zero (fin s zero e) h = refl
root_of_zero (fin s (suc m) e) h = cc (some_eq s false m e (pos 0))

-- neither above zero nor a zero
pub root_of_none : (x : Float) → lt (of_bits binary64 0) x ≡ false → eq x (of_bits binary64 0) ≡ false
    → div binary64 (of_bits binary64 0) (of_bits binary64 0) ≡ sqrt_of binary64 x
unfolding lt eq div of_bits sqrt_of
root_of_none nan h k = refl
root_of_none (inf true) h k = refl
root_of_none (inf false) h k = cc
root_of_none (fin s zero e) h k = cc (zero_eq s false e (pos 0))
root_of_none (fin true (suc m) e) h k = refl
root_of_none (fin false (suc m) e) h k = cc (zero_lt false (pos 0) (fin false (suc m) e) (is_number m))
