-- The bit patterns of the values of binary64 that are finite and not negative: how one is read, how one is written, and
-- the root of the value that it stands for. Assumes nothing.
use mathlib.Core.Path.{◌≡◌, refl, sym, ap, ◌∙◌}
use mathlib.Core.Logic.{inl, inr}
use mathlib.Core.Bool.{true, false, not}
use Prim.Native.Nat.{ℕ, zero, suc, ◌+◌, ◌-◌, ◌*◌, ◌/◌, ◌%◌, ◌^◌, ◌≤◌, ◌<◌}
use native.Mathlib.Omega.{arith}
use native.Mathlib.Nat.{lt_of_lt_of_le, mul-one, mul_assoc, mul_right_comm, mul-div_cancel, pow-succ'}
use lib.Dec.{T}
use lib.Pow.{pow_mono, shl_lt}
use lib.Count.{count_trailing_zeros, under}
use borrow.Author.Tests.{lt-ltb, le-ltb, lt-leb, ne_eqb}
use lib.Ieee.{Float, nan, inf, fin, binary64, up, down, minus, odd, units, nan_bits, of_fields, of_bits}
use lib.Ieee.Bits.{nan_bits_above}
use lib.Ieee.Fits.{down_pos}
use lib.Ieee.Exact.{HasValue, odd_sign}
use lib.Ieee.Positive.{positive, positive_of_value}
use Rattle.square_root.specs.Root.{rooted, sqrt_of}
use Rattle.square_root.specs.Nearest.{val}
use Rattle.square_root.proofs.Numbers.{lt_or_le}
use Rattle.square_root.proofs.Values.{val_low, val_high, val_pos}

-- ---- a pattern, by its two fields

pub by_fields : (b x t : ℕ) → b < 2 ^ 63 → b % 2 ^ 63 / 2 ^ 52 ≡ x → b % 2 ^ 52 ≡ t
    → of_bits binary64 b ≡ of_fields binary64 false x t
unfolding of_bits
by_fields b x t h p q = rw (lt-leb (2 ^ 63) b h, p, q)

at_zero : (t : ℕ) → of_fields binary64 false 0 t ≡ odd 53 false t 0 1074
unfolding of_fields
at_zero t = refl

at_suc : (j t : ℕ) → j < 2046 → of_fields binary64 false (suc j) t ≡ odd 53 false (2 ^ 52 + t) j 1074
unfolding of_fields
at_suc j t h = rw (ne_eqb (suc j) 2047 (λ e. omega arith))

-- ---- reading

read_low : (b : ℕ) → b < 2 ^ 52 → HasValue (of_bits binary64 b) false (val b) (2 ^ 1074)
read_low b h =
    rw (val_low b h, by_fields b 0 b (omega arith) (omega arith) (omega arith), at_zero)
    (rw mul-one at (odd_sign 53 false b 0 1074))

read_high : (b : ℕ) → 2 ^ 52 ≤ b → b < 2047 * 2 ^ 52 → HasValue (of_bits binary64 b) false (val b) (2 ^ 1074)
read_high b lo hi =
    let j = b / 2 ^ 52 - 1 in
    let t = b % 2 ^ 52 in
    let flip : t + 2 ^ 52 ≡ 2 ^ 52 + t = omega arith in
    rw (val_high b lo, by_fields b (suc j) t (omega arith) (omega arith) refl, at_suc j t (omega arith), flip)
    (odd_sign 53 false (2 ^ 52 + t) j 1074)

-- the value of the pattern b is val b units
pub read : (b : ℕ) → b < 2047 * 2 ^ 52 → HasValue (of_bits binary64 b) false (val b) (2 ^ 1074)
read b h = elim (lt_or_le b (2 ^ 52)) [ inl l ↦ read_low b l | inr g ↦ read_high b g h ]

pub positive_at : (b : ℕ) → 0 < b → b < 2047 * 2 ^ 52 → T (positive (of_bits binary64 b))
positive_at b lo hi = positive_of_value (of_bits binary64 b) (val b) (2 ^ 1074) (read b hi) (val_pos lo)

-- ---- writing

-- looking at one more digit of a number that has no more changes nothing
tz_more : (d q : ℕ) → 0 < q → q < 2 ^ d → count_trailing_zeros (suc d) q ≡ count_trailing_zeros d q
unfolding count_trailing_zeros
tz_more zero q h k = absurd (omega arith)
tz_more (suc d) q h k =
    go (q % 2) refl (λ (e : q % 2 ≡ 0). tz_more d (q / 2) (omega arith) (half_lt (2 ^ d) (rw pow-succ' at k)))
  where
    half_lt : (p : ℕ) → q < 2 * p → q / 2 < p
    half_lt p l = omega arith

    go : (r : ℕ) → q % 2 ≡ r → (q % 2 ≡ 0 → count_trailing_zeros (suc d) (q / 2) ≡ count_trailing_zeros d (q / 2))
        → under r (count_trailing_zeros (suc d) (q / 2)) ≡ under r (count_trailing_zeros d (q / 2))
    go zero e ih = ap suc (ih e)
    go (suc r) e ih = refl

odd_more : (q k : ℕ) → 0 < q → q < 2 ^ 53 → odd 54 false q k 1074 ≡ odd 53 false q k 1074
unfolding odd
odd_more zero k h l = refl
odd_more (suc q) k h l = ap (λ (t : ℕ). fin false (suc q / 2 ^ t) (minus (k + t) 1074)) (tz_more 53 (suc q) h l)

units_is : (q k : ℕ) → q * 2 ^ k < 2 ^ 2098 → units binary64 false q k ≡ odd 54 false q k 1074
unfolding units
units_is q k h = rw (lt-ltb (q * 2 ^ k) (2 ^ 2098) h)

-- q * 2 ^ k units, for a q of 53 digits, by its pattern
pub written : (q k : ℕ) → 2 ^ 52 ≤ q → q < 2 ^ 53 → k < 2045
    → of_bits binary64 (k * 2 ^ 52 + q) ≡ units binary64 false q k
written q k lo hi h =
    let room : 53 + k ≤ 2098 = omega arith in
    let d : 2 ^ 52 + (q - 2 ^ 52) ≡ q = omega arith in
    by_fields (k * 2 ^ 52 + q) (suc k) (q - 2 ^ 52) (omega arith) (omega arith) (omega arith)
    ∙ at_suc k (q - 2 ^ 52) (omega arith)
    ∙ ap (λ (x : ℕ). odd 53 false x k 1074) d
    ∙ sym (odd_more q k (omega arith) hi)
    ∙ sym (units_is q k (lt_of_lt_of_le (shl_lt 53 k hi) (pow_mono room)))

pub no_nan : (b : ℕ) → b < 2047 * 2 ^ 52 → T (not (nan_bits binary64 b))
no_nan b h = rw (nan_bits_above binary64 b, le-ltb (2047 * 2 ^ 52) (b % 2 ^ 63) (omega arith)) tt

-- ---- the root of a value that is n units: the division by 2 ^ -e in `sqrt_of` leaves nothing over

by_units : (x : Float) (n : ℕ) → T (positive x) → HasValue x false n (2 ^ 1074)
    → sqrt_of binary64 x ≡ rooted binary64 (n * 2 ^ 1074)
unfolding sqrt_of
by_units nan n p v = absurd p
by_units (inf s) n p v = absurd p
by_units (fin true m e) n p v = absurd p
by_units (fin false zero e) n p v = absurd p
by_units (fin false (suc m) e) n p v =
    ap (λ (x : ℕ). rooted binary64 (x / down e)) (cross (suc m * up e) (down e) (2 ^ 1074) (4 ^ 1074) v.1 refl)
    ∙ ap (rooted binary64) (mul-div_cancel (n * 2 ^ 1074) (down_pos e))
  where
    cross : (a d l p : ℕ) → a * l ≡ n * d → p ≡ l * l → a * p ≡ n * l * d
    cross a d l p e f = rw (f, ← mul_assoc a l l, e) (mul_right_comm n d l)

pub sqrt_at : (b : ℕ) → 0 < b → b < 2047 * 2 ^ 52
    → sqrt_of binary64 (of_bits binary64 b) ≡ rooted binary64 (val b * 2 ^ 1074)
sqrt_at b lo hi = by_units (of_bits binary64 b) (val b) (positive_at b lo hi) (read b hi)
