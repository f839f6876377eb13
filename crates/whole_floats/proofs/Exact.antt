-- Sums, differences and products of whole numbers are exact up to 2^53, and so are a negative and the float of an
-- integer. Assumes nothing.
use Prim.Native.Nat.{ℕ, suc, ◌+◌, ◌-◌, ◌*◌, ◌^◌, ◌≤◌, ◌<◌}
use native.Mathlib.Omega.{arith}
use native.Mathlib.Nat.{mul-pos}
use mathlib.Core.Path.{◌≡◌, refl, ap}
use mathlib.Core.Bool.{Bool, true, false, cond}
use lib.IntN.{ℤ, pos, negsuc}
use lib.Dec.{ltb, lit<}
use lib.Ieee.{Float, nan, inf, fin, Format, up, down, binary64, round, mul, sub, neg, of_int}
use lib.Ieee.Fits.{down_pos}
use lib.Ieee.Positive.{den}
use borrow.Author.Tests.{ltb-true, ltb-false}
use Rattle.laws.proofs.Parts.{plus, less}
use Rattle.laws.proofs.Rounding.{Rounds, upward, downward, finite_sum}
use Rattle.scalar.specs.Float.{◌⊕◌, ◌⊖◌, ◌⊗◌}
use Rattle.whole_floats.specs.Whole.{Whole, Difference, difference_of}
use Rattle.whole_floats.proofs.Fraction.{At, at_one, of_one, wholes_kept, rounds_at}

-- p - q is r - s
pub whole_same : (x : Float) (p q r s : ℕ) → p + s ≡ r + q → Whole x p q → Whole x r s
whole_same nan p q r s h k = k
whole_same (inf t) p q r s h k = k
whole_same (fin false m e) p q r s h k = let g = ap (λ (z : ℕ). z * down e) h in omega (arith, k)
whole_same (fin true m e) p q r s h k = let g = ap (λ (z : ℕ). z * down e) h in omega (arith, k)

-- ---- signs

pub negated : (x : Float) (p q : ℕ) → Whole x p q → Whole (neg x) q p
unfolding neg
negated nan p q h = h
negated (inf s) p q h = h
negated (fin false m e) p q h = h
negated (fin true m e) p q h = h

-- ---- sums

sum_parts : (px lx dx py ly dy p q r s : ℕ) → px * 1 + q * dx ≡ lx * 1 + p * dx → py * 1 + s * dy ≡ ly * 1 + r * dy
    → (px * dy + py * dx) * 1 + (q + s) * (dx * dy) ≡ (lx * dy + ly * dx) * 1 + (p + r) * (dx * dy)
sum_parts px lx dx py ly dy p q r s h k =
    let x = ap (λ (z : ℕ). z * dy) h in
    let y = ap (λ (z : ℕ). z * dx) k in
    omega arith

sum_whole : (x y : Float) (p q r s : ℕ) → At x p q 1 → At y r s 1
    → p + r ≤ q + s + 2 ^ 53 → q + s ≤ p + r + 2 ^ 53 → At (x ⊕ y) (p + r) (q + s) 1
sum_whole nan y p q r s h k a b = absurd h
sum_whole (inf s) y p q r t h k a b = absurd h
sum_whole (fin s m e) nan p q r t h k a b = absurd k
sum_whole (fin s m e) (inf t) p q r u h k a b = absurd k
sum_whole (fin s m e) (fin t n d) p q r u h k a b =
    let x = fin s m e in
    let y = fin t n d in
    rounds_at 1 (2 ^ 53) wholes_kept (p + r) (q + u) (mul-pos (down_pos e) (down_pos d)) (finite_sum binary64 s m e t n d)
    (sum_parts (plus x) (less x) (down e) (plus y) (less y) (down d) p q r u h k) a b

pub sum : (x y : Float) (p q r s : ℕ) → Whole x p q → Whole y r s
    → p + r ≤ q + s + 2 ^ 53 → q + s ≤ p + r + 2 ^ 53 → Whole (x ⊕ y) (p + r) (q + s)
sum x y p q r s h k a b = of_one (x ⊕ y) (p + r) (q + s) (sum_whole x y p q r s (at_one x p q h) (at_one y r s k) a b)

pub difference : (x y : Float) (p q r s : ℕ) → Whole x p q → Whole y r s
    → p + s ≤ q + r + 2 ^ 53 → q + r ≤ p + s + 2 ^ 53 → Whole (x ⊖ y) (p + s) (q + r)
unfolding sub
difference x y p q r s h k a b = sum x (neg y) p q s r h (negated y r s k) a b

-- ---- products

finite_product : (f : Format) (s : Bool) (m : ℕ) (e : ℤ) (t : Bool) (n : ℕ) (d : ℤ) →
    let x = fin s m e in
    let y = fin t n d in
    Rounds f (mul f x y) (plus x * plus y + less x * less y) (plus x * less y + less x * plus y) (den x * den y)
unfolding mul
finite_product f false m e false n d =
    upward (m * up e * (n * up d) + 0 * 0) (m * up e * 0 + 0 * (n * up d)) (down e * down d) (m * up e * (n * up d)) (omega arith)
finite_product f false m e true n d =
    downward (m * up e * 0 + 0 * (n * up d)) (m * up e * (n * up d) + 0 * 0) (down e * down d) (m * up e * (n * up d)) (omega arith)
finite_product f true m e false n d =
    downward (0 * (n * up d) + m * up e * 0) (0 * 0 + m * up e * (n * up d)) (down e * down d) (m * up e * (n * up d)) (omega arith)
finite_product f true m e true n d =
    upward (0 * 0 + m * up e * (n * up d)) (0 * (n * up d) + m * up e * 0) (down e * down d) (m * up e * (n * up d)) (omega arith)

product_parts : (px lx dx py ly dy p q r s : ℕ) → px * 1 + q * dx ≡ lx * 1 + p * dx → py * 1 + s * dy ≡ ly * 1 + r * dy
    → (px * py + lx * ly) * 1 + (p * s + q * r) * (dx * dy) ≡ (px * ly + lx * py) * 1 + (p * r + q * s) * (dx * dy)
product_parts px lx dx py ly dy p q r s h k =
    let a = ap (λ (z : ℕ). z * py) h in
    let b = ap (λ (z : ℕ). z * ly) h in
    let c = ap (λ (z : ℕ). z * (p * dx)) k in
    let d = ap (λ (z : ℕ). z * (q * dx)) k in
    omega arith

product_whole : (x y : Float) (p q r s : ℕ) → At x p q 1 → At y r s 1
    → p * r + q * s ≤ p * s + q * r + 2 ^ 53 → p * s + q * r ≤ p * r + q * s + 2 ^ 53 → At (x ⊗ y) (p * r + q * s) (p * s + q * r) 1
product_whole nan y p q r s h k a b = absurd h
product_whole (inf s) y p q r t h k a b = absurd h
product_whole (fin s m e) nan p q r t h k a b = absurd k
product_whole (fin s m e) (inf t) p q r u h k a b = absurd k
product_whole (fin s m e) (fin t n d) p q r u h k a b =
    let x = fin s m e in
    let y = fin t n d in
    rounds_at 1 (2 ^ 53) wholes_kept (p * r + q * u) (p * u + q * r) (mul-pos (down_pos e) (down_pos d)) (finite_product binary64 s m e t n d)
    (product_parts (plus x) (less x) (down e) (plus y) (less y) (down d) p q r u h k) a b

pub product : (x y : Float) (p q r s : ℕ) → Whole x p q → Whole y r s
    → p * r + q * s ≤ p * s + q * r + 2 ^ 53 → p * s + q * r ≤ p * r + q * s + 2 ^ 53 → Whole (x ⊗ y) (p * r + q * s) (p * s + q * r)
product x y p q r s h k a b = of_one (x ⊗ y) (p * r + q * s) (p * s + q * r) (product_whole x y p q r s (at_one x p q h) (at_one y r s k) a b)

-- ---- the float of an integer

pub of_integer : (z : ℤ) (p q : ℕ) → Difference z p q → p ≤ q + 2 ^ 53 → q ≤ p + 2 ^ 53 → Whole (of_int binary64 z) p q
unfolding of_int
of_integer (pos n) p q h a b =
    of_one (round binary64 false n 1) p q (rounds_at 1 (2 ^ 53) wholes_kept p q (lit< tt) (upward p q 1 n h) (omega arith) a b)
of_integer (negsuc n) p q h a b =
    of_one (round binary64 true (suc n) 1) p q (rounds_at 1 (2 ^ 53) wholes_kept p q (lit< tt) (downward p q 1 (suc n) h) (omega arith) a b)

-- ---- a difference as an integer

pub difference_is : (p q : ℕ) → Difference (difference_of p q) p q
difference_is p q = go (ltb p q) refl
  where
    go : (t : Bool) → ltb p q ≡ t → Difference (cond t (negsuc (q - suc p)) (pos (p - q))) p q
    go true e = omega (arith, ltb-true p q e)
    go false e = omega (arith, ltb-false p q e)
