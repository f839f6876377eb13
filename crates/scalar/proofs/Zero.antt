-- How each kind of value compares with 0.0. Assumes nothing.
use Prim.Native.Nat.{ℕ, zero, suc, ◌+◌, ◌*◌, ◌^◌}
use mathlib.Core.Path.{◌≡◌, refl}
use mathlib.Core.Bool.{Bool, true, false}
use native.Mathlib.Omega.{arith}
use native.Mathlib.Nat.{mul-pos, zero-lt-suc}
use lib.Dec.{T, eqb→eq}
use lib.Pow.{pow_pos}
use lib.IntN.{ℤ, pos, negsuc}
use lib.Ieee.{fin, binary64, lt, eq, up, down, fits, of_bits}
use lib.Ieee.Fits.{up_pos}
use Rattle.scalar.specs.Float.{f0}
use borrow.Author.Tests.{lt-ltb, le-ltb, eq-eqb, ne_eqb}

pub minus_lt : (m : ℕ) (e : ℤ) → lt (fin true (suc m) e) f0 ≡ true
unfolding lt of_bits
minus_lt m e = let h = mul-pos (zero-lt-suc m) (up_pos e) in lt-ltb 0 (suc m * up e * 1 + 0 * 1 * down e) (omega arith)

pub plus_lt : (m : ℕ) (e : ℤ) → lt (fin false m e) f0 ≡ false
unfolding lt of_bits
plus_lt m e = le-ltb (m * up e * 1) (0 * 1 * down e) (omega arith)

pub zero_lt : (s : Bool) (e : ℤ) → lt (fin s 0 e) f0 ≡ false
unfolding lt of_bits
zero_lt false e = le-ltb (0 * up e * 1) (0 * 1 * down e) (omega arith)
zero_lt true e = le-ltb 0 (0 * up e * 1 + 0 * 1 * down e) (omega arith)

pub zero_eq : (s : Bool) (e : ℤ) → eq (fin s 0 e) f0 ≡ true
unfolding eq of_bits
zero_eq false e = simp (eq-eqb (0 * up e * 1) (0 * 1 * down e) (omega arith))
zero_eq true e = simp (eq-eqb (0 * up e * 1) (0 * 1 * down e) (omega arith), eq-eqb (0 * up e * 1) 0 (omega arith))

pub some_eq : (s : Bool) (m : ℕ) (e : ℤ) → eq (fin s (suc m) e) f0 ≡ false
unfolding eq of_bits
some_eq s m e = let h = mul-pos (zero-lt-suc m) (up_pos e) in simp (ne_eqb (suc m * up e * 1) (0 * 1 * down e) (λ q. omega arith))

one_power : (k : ℕ) → 2 ^ k * 1 ≡ 1 → k ≡ 0
one_power zero h = refl
one_power (suc k) h = let p = pow_pos k in absurd (omega arith)

no_power : (k : ℕ) → 1 * 2 ^ suc k ≡ 1 → ⊥
no_power k h = let p = pow_pos k in omega arith

-- a zero has one way of being written
pub zero_at : (s : Bool) (e : ℤ) → T (fits binary64 (fin s 0 e)) → e ≡ pos 0
unfolding fits
zero_at s (pos k) h = rw (one_power k (eqb→eq _ _ h))
zero_at s (negsuc k) h = absurd (no_power k (eqb→eq _ _ h))
