-- Roots that antt works out from `sqrt_of`, by bit patterns: what stands right of an arrow is the root.
use Rattle.std.specs.Prelude.{◌≡◌, refl, Float, ℕ}
use Rattle.std.specs.Float.{nan, binary64}
use Rattle.std.specs.Float.Ieee.{to_bits, of_bits}
use Rattle.square_root.specs.Root.{sqrt_of}

-- the root of the value with the bit pattern b
abbrev root : ℕ → Float
root b = sqrt_of binary64 (of_bits binary64 b)

-- 4 → 2
pub four : to_bits binary64 (root 0x4010_0000_0000_0000) ≡ 0x4000_0000_0000_0000
unfolding sqrt_of to_bits of_bits
four = refl

-- 0.25 → 0.5
pub quarter : to_bits binary64 (root 0x3fd0_0000_0000_0000) ≡ 0x3fe0_0000_0000_0000
unfolding sqrt_of to_bits of_bits
quarter = refl

-- -0.0 → -0.0
pub minus_zero_lem : to_bits binary64 (root 0x8000_0000_0000_0000) ≡ 0x8000_0000_0000_0000
unfolding sqrt_of to_bits of_bits
minus_zero_lem = refl

-- 0.0 → 0.0
pub plus_zero : to_bits binary64 (root 0) ≡ 0
unfolding sqrt_of to_bits of_bits
plus_zero = refl

-- 2 ^ -1074, the smallest value above zero → 2 ^ -537
pub least : to_bits binary64 (root 1) ≡ 0x1e60_0000_0000_0000
unfolding sqrt_of to_bits of_bits
least = refl

-- 3 * 2 ^ -1074
pub three_least : to_bits binary64 (root 3) ≡ 0x1e6b_b67a_e858_4caa
unfolding sqrt_of to_bits of_bits
three_least = refl

-- 2
pub two : to_bits binary64 (root 0x4000_0000_0000_0000) ≡ 0x3ff6_a09e_667f_3bcd
unfolding sqrt_of to_bits of_bits
two = refl

-- the largest finite value
pub largest : to_bits binary64 (root 0x7fef_ffff_ffff_ffff) ≡ 0x5fef_ffff_ffff_ffff
unfolding sqrt_of to_bits of_bits
largest = refl

-- +infinity → +infinity
pub infinity : to_bits binary64 (root 0x7ff0_0000_0000_0000) ≡ 0x7ff0_0000_0000_0000
unfolding sqrt_of to_bits of_bits
infinity = refl

-- -infinity → NaN
pub minus_infinity : root 0xfff0_0000_0000_0000 ≡ nan
unfolding sqrt_of of_bits
minus_infinity = refl

-- -1 → NaN
pub minus_one : root 0xbff0_0000_0000_0000 ≡ nan
unfolding sqrt_of of_bits
minus_one = refl

-- NaN → NaN
pub not_a_number : root 0x7ff8_0000_0000_0000 ≡ nan
unfolding sqrt_of of_bits
not_a_number = refl
