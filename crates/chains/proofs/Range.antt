-- A numerator larger than twice the denominator gives a parameter of at least 2 in size, or a NaN, as they are rounded too: so with a tolerance of at most a half it is not within it. Assumes nothing.
use Prim.Native.Nat.{ℕ, zero, suc, ◌+◌, ◌*◌, ◌≤◌, ◌<◌}
use native.Mathlib.Omega.{arith}
use native.Mathlib.Nat.{zero-lt-suc, mul-pos, mul-le-mul_right}
use native.Mathlib.Decide.{dec_le}
use mathlib.Core.Path.{◌≡◌, refl, sym, ◌∙◌, subst}
use mathlib.Core.Logic.{inl, inr}
use mathlib.Core.Bool.{Bool, true, false, not, ◌&&◌, cond, true≢false, and-false}
use lib.IntN.{ℤ}
use lib.Dec.{T, eqb}
use lib.Ieee.{Float, nan, inf, fin, binary64, unlike, up, down, fits, round, neg, of_bits, add, div, lt, le}
use lib.Ieee.Fits.{up_pos, down_pos, neg-fits}
use lib.Ieee.Order.{round_mono}
use lib.Ieee.Positive.{den}
use Rattle.laws.proofs.Parts.{plus, less, NotAbove}
use Rattle.laws.proofs.Order.{clash, le_trans, lt_nan, nan_above, no_nan}
use Rattle.laws.proofs.Rounding.{rounds_mono, round_minus, finite_sum}
use Rattle.scalar.specs.Float.{f0·5, f1, f2, ◌⊕◌, ◌⊘◌}
use Rattle.scalar.specs.Scalar.{abs_of}
use Rattle.frames.proofs.Sums.{own, own_rounds, rounded}
use Rattle.frames.proofs.Beyond.{sums, turned}
use Rattle.chains.specs.Chain.{twice}

-- ---- at least 2 in size

pub data Big : Float → Type 0 where
  none : Big nan
  over : {u : Float} → T (le f2 u) → Big u
  under : {u : Float} → T (le u (neg f2)) → Big u

infinite : (z b : Bool) → Big (cond z nan (inf b))
unfolding le neg of_bits
infinite true b = none
infinite false false = over tt
infinite false true = under tt

two_rounded : round binary64 false 2 1 ≡ f2
unfolding round of_bits
two_rounded = refl

big_round : (b : Bool) (a c : ℕ) → 0 < c → 2 * c ≤ a → Big (round binary64 b a c)
big_round false a c C h = over (subst (λ (w : Float). T (le w (round binary64 false a c))) two_rounded (round_mono binary64 2 1 a c (omega arith) C (omega arith)))
big_round true a c C h =
    rw (round_minus binary64 a c)
    (under (turned f2 (round binary64 false a c) (subst (λ (w : Float). T (le w (round binary64 false a c))) two_rounded (round_mono binary64 2 1 a c (omega arith) C (omega arith)))))

big_quotient : (s : Bool) (m : ℕ) (e : ℤ) (t : Bool) (n : ℕ) (d : ℤ) → 2 * (n * up d * down e) ≤ m * up e * down d → Big (fin s m e ⊘ fin t n d)
unfolding div
big_quotient s m e t zero d h = infinite (eqb m 0) (unlike s t)
big_quotient s m e t (suc n) d h = by (eqb (suc n) 0)
  where
    by : (z : Bool) → Big (cond z (cond (eqb m 0) nan (inf (unlike s t))) (round binary64 (unlike s t) (m * up e * down d) (suc n * up d * down e)))
    by true = infinite (eqb m 0) (unlike s t)
    by false = big_round (unlike s t) (m * up e * down d) (suc n * up d * down e) (mul-pos (mul-pos (zero-lt-suc n) (up_pos d)) (down_pos e)) h

-- ---- above twice the denominator

-- where it is not so of the exact values, it is not so of the rounded ones
within_twice : (s : Bool) (m : ℕ) (e : ℤ) (t : Bool) (n : ℕ) (d : ℤ) → T (fits binary64 (fin s m e)) → m * up e * down d ≤ 2 * (n * up d * down e)
    → T (le (fin s m e) (twice (fin t n d)))
unfolding abs_of
within_twice s m e t n d F h =
    le_trans (fin s m e) (rounded s m e) (fin false n d ⊕ fin false n d) (own s m e F).0
    (rounds_mono binary64 (down_pos e) (mul-pos (down_pos d) (down_pos d)) (own_rounds s m e) (finite_sum binary64 false n d false n d) (by s))
  where
    by : (s : Bool) → let x = fin s m e in let y = fin false n d in
        NotAbove (plus x) (less x) (den x) (plus y * den y + plus y * den y) (less y * den y + less y * den y) (den y * den y)
    by true = omega arith
    by false = let z = mul-le-mul_right (down d) h in omega arith

exact : (s : Bool) (m : ℕ) (e : ℤ) (t : Bool) (n : ℕ) (d : ℤ) → T (fits binary64 (fin s m e)) → lt (twice (fin t n d)) (fin s m e) ≡ true
    → 2 * (n * up d * down e) ≤ m * up e * down d
exact s m e t n d F h = by (dec_le (2 * (n * up d * down e)) (m * up e * down d))
  where
    by : Dec (2 * (n * up d * down e) ≤ m * up e * down d) → 2 * (n * up d * down e) ≤ m * up e * down d
    by (yes l) = l
    by (no l) = absurd (clash (twice (fin t n d)) (fin s m e) h (within_twice s m e t n d F (omega (arith, l))))

lt_bottom : (x : Float) → lt x (inf true) ≡ false
unfolding lt
lt_bottom nan = refl
lt_bottom (inf true) = refl
lt_bottom (inf false) = refl
lt_bottom (fin s m e) = refl

from_infinity : (s : Bool) (y : Float) → Big (inf s ⊘ y)
unfolding div
from_infinity s nan = none
from_infinity s (inf t) = none
from_infinity s (fin t n d) = infinite false (unlike s t)

by_infinity : (s : Bool) (m : ℕ) (e : ℤ) (t : Bool) → lt (twice (inf t)) (fin s m e) ≡ true → ⊥
unfolding abs_of add lt
by_infinity s m e t h = true≢false (sym h)

by_nan : (x : Float) → Big (x ⊘ nan)
unfolding div
by_nan nan = none
by_nan (inf s) = none
by_nan (fin s m e) = none

-- the numerator is, or what it is the negative of
pub above_twice : (x y : Float) → T (fits binary64 x) → lt (twice y) x ≡ true → Big (x ⊘ y)
above_twice nan y F h = absurd (true≢false (sym h ∙ lt_nan (twice y)))
above_twice (inf true) y F h = absurd (true≢false (sym h ∙ lt_bottom (twice y)))
above_twice (inf false) y F h = from_infinity false y
above_twice (fin s m e) nan F h = by_nan (fin s m e)
above_twice (fin s m e) (inf t) F h = absurd (by_infinity s m e t h)
above_twice (fin s m e) (fin t n d) F h = big_quotient s m e t n d (exact s m e t n d F h)

pub below_twice : (x y : Float) → T (fits binary64 x) → lt (twice y) (neg x) ≡ true → Big (x ⊘ y)
unfolding neg
below_twice nan y F h = absurd (true≢false (sym h ∙ lt_nan (twice y)))
below_twice (inf true) y F h = from_infinity true y
below_twice (inf false) y F h = absurd (true≢false (sym h ∙ lt_bottom (twice y)))
below_twice (fin s m e) nan F h = by_nan (fin s m e)
below_twice (fin s m e) (inf t) F h = absurd (by_infinity (not s) m e t h)
below_twice (fin s m e) (fin t n d) F h = big_quotient s m e t n d (exact (not s) m e t n d (neg-fits binary64 (fin s m e) F) h)

-- ---- not within the tolerance

untrue : (b : Bool) → (T b → ⊥) → b ≡ false
untrue true h = absurd (h tt)
untrue false h = refl

one_level : T (le f1 f1)
unfolding le of_bits
one_level = tt

one_and_half : T (le (f1 ⊕ f0·5) f2)
unfolding le add of_bits
one_and_half = tt

below_two : T (le f2 (f1 ⊕ f0·5)) → ⊥
unfolding le add of_bits
below_two z = z

above_minus_two : T (le (neg f0·5) (neg f2)) → ⊥
unfolding le neg of_bits
above_minus_two z = z

too_high : (u tol : Float) → T (le tol f0·5) → T (le f2 u) → T (le u (f1 ⊕ tol)) → ⊥
too_high u tol h g k =
    elim (sums f1 f1 tol f0·5 one_level h) [
      | inl e ↦ no_nan u (subst (λ (w : Float). T (le u w)) e k)
      | inr r ↦ elim r [
        | inl e ↦ nan_above f2 (subst (λ (w : Float). T (le w f2)) e one_and_half)
        | inr l ↦ below_two (le_trans f2 u (f1 ⊕ f0·5) g (le_trans u (f1 ⊕ tol) (f1 ⊕ f0·5) k l))
      ]
    ]

too_low : (u tol : Float) → T (le tol f0·5) → T (le u (neg f2)) → T (le (neg tol) u) → ⊥
too_low u tol h g k = above_minus_two (le_trans (neg f0·5) (neg tol) (neg f2) (turned tol f0·5 h) (le_trans (neg tol) u (neg f2) k g))

pub out_of_range : (u tol : Float) → T (le tol f0·5) → Big u → le (neg tol) u && le u (f1 ⊕ tol) ≡ false
out_of_range u tol h none = rw (untrue (le (neg tol) nan) (no_nan (neg tol)))
out_of_range u tol h (over g) = rw (untrue (le u (f1 ⊕ tol)) (too_high u tol h g), and-false (le (neg tol) u))
out_of_range u tol h (under g) = rw (untrue (le (neg tol) u) (too_low u tol h g))
