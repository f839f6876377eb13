-- Values whose sign is clear: the rounding of what is not below zero, a square that is no NaN, and their sums. So a sum of
-- two squares is not below zero, whatever the numbers. Assumes nothing.
use Prim.Native.Nat.{ℕ, zero, suc, ◌+◌, ◌*◌, ◌^◌}
use native.Mathlib.Omega.{arith}
use mathlib.Core.Path.{◌≡◌, refl}
use mathlib.Core.Logic.{◌⊎◌, inl, inr}
use mathlib.Core.Bool.{Bool, true, false, cond}
use lib.IntN.{ℤ}
use lib.Dec.{T, ltb}
use lib.Ieee.{Float, nan, inf, fin, Format, prec, emax, low, binary64, up, down, odd, units, round, sum, of_bits, add, mul, neg, lt, le}
use lib.Ieee.Fits.{round_is}
use borrow.Author.Tests.{le-ltb}
use Rattle.laws.proofs.Parts.{parts_of_le, le_of_parts}

-- an infinity or a number, with its sign clear
pub data Plain : Float → Type 0 where
  infinite : Plain (inf false)
  number : (m : ℕ) (e : ℤ) → Plain (fin false m e)

odd_plain : (d q k l : ℕ) → Plain (odd d false q k l)
unfolding odd
odd_plain d zero k l = number _ _
odd_plain d (suc q) k l = number _ _

pub units_plain : (f : Format) (q k : ℕ) → Plain (units f false q k)
unfolding units
units_plain f q k = by (ltb (q * 2 ^ k) (2 ^ (low f + suc (emax f))))
  where
    by : (b : Bool) → Plain (cond b (odd (suc (prec f)) false q k (low f)) (inf false))
    by true = odd_plain (suc (prec f)) q k (low f)
    by false = infinite

pub round_plain : (f : Format) (a c : ℕ) → Plain (round f false a c)
round_plain f a c = rw round_is (units_plain f _ _)

-- ---- the order, with signs changed

pub minus_below : {x y : Float} → Plain x → Plain y → T (le (neg x) y)
unfolding le neg
minus_below infinite infinite = tt
minus_below infinite (number n d) = tt
minus_below (number m e) infinite = tt
minus_below (number m e) (number n d) = le_of_parts true m e false n d (omega arith)

pub turned : {x y : Float} → Plain x → Plain y → T (le x y) → T (le (neg y) (neg x))
unfolding le neg
turned infinite infinite h = tt
turned infinite (number n d) h = absurd h
turned (number m e) infinite h = tt
turned (number m e) (number n d) h = le_of_parts true n d true m e (let l = parts_of_le false m e false n d h in omega arith)

-- ---- squares and sums

pub square_plain : (x : Float) → (mul binary64 x x ≡ nan) ⊎ Plain (mul binary64 x x)
unfolding mul
square_plain nan = inl refl
square_plain (inf true) = inr infinite
square_plain (inf false) = inr infinite
square_plain (fin true m e) = inr (round_plain binary64 (m * up e * (m * up e)) (down e * down e))
square_plain (fin false m e) = inr (round_plain binary64 (m * up e * (m * up e)) (down e * down e))

pub sum_plain : {x y : Float} → Plain x → Plain y → Plain (add binary64 x y)
unfolding add sum
sum_plain infinite infinite = infinite
sum_plain infinite (number n d) = infinite
sum_plain (number m e) infinite = infinite
sum_plain (number m e) (number n d) = round_plain binary64 (m * up e * down d + n * up d * down e) (down e * down d)

pub to_nan : (x : Float) → add binary64 x nan ≡ nan
unfolding add
to_nan nan = refl
to_nan (inf s) = refl
to_nan (fin s m e) = refl

pub from_nan : (y : Float) → add binary64 nan y ≡ nan
unfolding add
from_nan y = refl

pub squares_plain : (a b : Float) →
    let s = add binary64 (mul binary64 a a) (mul binary64 b b) in
    (s ≡ nan) ⊎ Plain s
squares_plain a b =
    elim (square_plain a) [
      | inl e ↦ inl (rw e (from_nan _))
      | inr P ↦ elim (square_plain b) [ inl e ↦ inl (rw e (to_nan _)) | inr Q ↦ inr (sum_plain P Q) ]
    ]

plain_not_below : {x : Float} → Plain x → lt x (of_bits binary64 0) ≡ false
unfolding lt of_bits
plain_not_below infinite = refl
plain_not_below (number m e) = le-ltb (m * up e * 1) (0 * 1 * down e) (omega arith)

nan_not_below : (x : Float) → x ≡ nan → lt x (of_bits binary64 0) ≡ false
unfolding lt
nan_not_below x e = rw e refl

pub squares_not_below : (a b : Float)
    → lt (add binary64 (mul binary64 a a) (mul binary64 b b)) (of_bits binary64 0) ≡ false
squares_not_below a b = elim (squares_plain a b) [ inl e ↦ nan_not_below _ e | inr P ↦ plain_not_below P ]
