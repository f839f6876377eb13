-- Integers as differences of two natural numbers: opposites, products and sums of them, and when two are equal. Assumes nothing.
use Prim.Native.Nat.{ℕ, zero, suc, ◌+◌, ◌*◌}
use native.Mathlib.Omega.{arith}
use mathlib.Core.Path.{◌≡◌, ap}
use lib.IntN.{ℤ, pos, negsuc, neg_ℤ, ◌+ℤ◌, ◌*ℤ◌}
use Rattle.whole_floats.specs.Whole.{Difference, difference_of}
use Rattle.whole_floats.proofs.Exact.{difference_is}

pub negated : (j p q : ℕ) → q ≡ p + j → Difference (neg_ℤ (pos j)) p q
negated zero p q h = omega arith
negated (suc j) p q h = h

pub scaled : (k : ℕ) (z : ℤ) (p q : ℕ) → Difference z p q → Difference (pos k *ℤ z) (k * p) (k * q)
scaled k (pos n) p q h = let e : k * p ≡ k * (q + n) = ap (λ (i : ℕ). k * i) h in omega arith
scaled k (negsuc n) p q h =
    negated (k * suc n) (k * p) (k * q) (let e : k * q ≡ k * (p + suc n) = ap (λ (i : ℕ). k * i) h in omega arith)

-- the same difference
same_difference : (z : ℤ) (p q r s : ℕ) → p + s ≡ r + q → Difference z p q → Difference z r s
same_difference (pos n) p q r s e h = omega arith
same_difference (negsuc n) p q r s e h = omega arith

pub added : (u v : ℤ) (p q r s : ℕ) → Difference u p q → Difference v r s → Difference (u +ℤ v) (p + r) (q + s)
added (pos a) (pos b) p q r s h k = omega arith
added (negsuc a) (negsuc b) p q r s h k = omega arith
added (pos a) (negsuc b) p q r s h k =
    same_difference (difference_of a (suc b)) a (suc b) (p + r) (q + s) (omega arith) (difference_is a (suc b))
added (negsuc a) (pos b) p q r s h k =
    same_difference (difference_of b (suc a)) b (suc a) (p + r) (q + s) (omega arith) (difference_is b (suc a))

-- one integer by two differences, and two by one
pub level : (z : ℤ) (p r q : ℕ) → Difference z p q → Difference z r q → p ≡ r
level (pos n) p r q h k = omega arith
level (negsuc n) p r q h k = omega arith

pub equal : (u v : ℤ) (p q : ℕ) → Difference u p q → Difference v p q → u ≡ v
equal (pos m) (pos n) p q h k = ap pos (let e : m ≡ n = omega arith in e)
equal (pos m) (negsuc n) p q h k = absurd (omega arith)
equal (negsuc m) (pos n) p q h k = absurd (omega arith)
equal (negsuc m) (negsuc n) p q h k = ap negsuc (let e : m ≡ n = omega arith in e)
