-- A length is a NaN or not below zero, so a sum of two is not below what the first is not below. Assumes nothing.
use Prim.Native.Nat.{ℕ, zero, suc, ◌+◌, ◌-◌, ◌*◌, ◌/◌, ◌^◌, compare}
use native.Mathlib.Omega.{arith}
use mathlib.Core.Path.{◌≡◌, refl, subst}
use mathlib.Core.Logic.{◌⊎◌, inl, inr}
use mathlib.Core.Bool.{Bool, true, false}
use lib.IntN.{ℤ, pos}
use lib.Dec.{T}
use lib.Ieee.{Float, nan, inf, fin, binary64, up, down, size, nearest, fits, add, lt, le}
use Rattle.laws.proofs.Parts.{le_of_parts}
use Rattle.laws.proofs.Order.{total, le_trans, lt_nan, not_less, no_nan, lt_of_infinity, le_of_infinity}
use Rattle.laws.proofs.Plain.{Plain, infinite, number, units_plain, squares_plain, to_nan, from_nan}
use Rattle.scalar.specs.Float.{◌⊕◌}
use Rattle.square_root.specs.Root.{isqrt, rooted, sqrt_of}
use Rattle.plane.specs.Vector.{dot_of, length_of}
use Rattle.plane.specs.declared.Point.{Point}
use Rattle.frames.proofs.Sums.{rises}
use Rattle.frames.proofs.Beyond.{sums}

rooted_plain : (n : ℕ) → Plain (rooted binary64 n)
unfolding rooted
rooted_plain n =
    let k = size (isqrt n) - 53 in
    let q = isqrt n / 2 ^ k in
    units_plain binary64 (nearest q (compare (4 * n) ((2 * q + 1) * (2 * q + 1) * 4 ^ k))) k

root_plain : {x : Float} → Plain x → Plain (sqrt_of binary64 x)
unfolding sqrt_of
root_plain infinite = infinite
root_plain (number zero e) = number 0 e
root_plain (number (suc m) e) = rooted_plain (suc m * up e * 4 ^ 1074 / down e)

pub length_plain : (v : Point) → (length_of v ≡ nan) ⊎ Plain (length_of v)
unfolding length_of dot_of
length_plain v = elim (squares_plain v.x v.y) [ inl e ↦ inl (rw e (unfold sqrt_of in refl)) | inr P ↦ inr (root_plain P) ]

-- ---- a sum with what is not below zero

zero_below : {y : Float} → Plain y → T (le (fin false 0 (pos 0)) y)
unfolding le
zero_below infinite = tt
zero_below (number m e) = le_of_parts false 0 (pos 0) false m e (omega arith)

no_less : (x lim : Float) → x ≡ nan → lt x lim ≡ false
unfolding lt
no_less x lim e = rw e refl

by_finite : (s : Bool) (m : ℕ) (e : ℤ) (x y : Float) → T (fits binary64 (fin s m e)) → T (le (fin s m e) x) → Plain y → lt (x ⊕ y) (fin s m e) ≡ false
by_finite s m e x y F h P =
    let lim = fin s m e in
    let up = rises s m e false 0 (pos 0) F refl in
    elim (sums lim x (fin false 0 (pos 0)) y h (zero_below P)) [
      | inl n ↦ absurd (no_nan lim (subst (λ (z : Float). T (le lim z)) n up))
      | inr r ↦ elim r [ inl n ↦ no_less (x ⊕ y) lim n | inr l ↦ not_less lim (x ⊕ y) (le_trans lim (lim ⊕ fin false 0 (pos 0)) (x ⊕ y) up l) ]
    ]

lt_lowest : (x : Float) → lt x (inf true) ≡ false
unfolding lt
lt_lowest nan = refl
lt_lowest (inf true) = refl
lt_lowest (inf false) = refl
lt_lowest (fin s m e) = refl

infinite_sum : {y : Float} → Plain y → inf false ⊕ y ≡ inf false
unfolding add
infinite_sum infinite = refl
infinite_sum (number n d) = refl

pub both_far : (lim x y : Float) → T (fits binary64 lim) → lt x lim ≡ false → (y ≡ nan) ⊎ Plain y → lt (x ⊕ y) lim ≡ false
both_far lim x y F h (inl e) = no_less (x ⊕ y) lim (rw e (to_nan x))
both_far lim x y F h (inr P) =
    elim (total x lim h) [
      | inl e ↦ no_less (x ⊕ y) lim (rw e (from_nan y))
      | inr r ↦ elim r [ inl e ↦ rw e (lt_nan (x ⊕ y)) | inr l ↦ by lim F l ]
    ]
  where
    by : (lim : Float) → T (fits binary64 lim) → T (le lim x) → lt (x ⊕ y) lim ≡ false
    by nan F l = lt_nan (x ⊕ y)
    by (inf true) F l = lt_lowest (x ⊕ y)
    by (inf false) F l = rw (le_of_infinity x l, infinite_sum P) (lt_of_infinity (inf false))
    by (fin s m e) F l = by_finite s m e x y F l P
