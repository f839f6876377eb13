-- Worked examples, computed. Assumes nothing.
use Rattle.std.proofs.Common.{◌≡◌, true, false, pos, negsuc, refl}
use lib.Ieee.{binary64, of_bits, of_int, to_signed, eq}
use Rattle.whole_input.specs.Whole.{signed_of, whole_part, is_whole}

-- 5, the largest word below 2 ^ 31, the one after it, and the last
five : signed_of 5 ≡ pos 5
unfolding signed_of
five = refl

largest : signed_of 2147483647 ≡ pos 2147483647
unfolding signed_of
largest = refl

least : signed_of 2147483648 ≡ negsuc 2147483647
unfolding signed_of
least = refl

minus_one : signed_of 4294967295 ≡ negsuc 0
unfolding signed_of
minus_one = refl

-- -3.0, 2.5, and -0.0, which counts as 0
minus_three : whole_part (of_bits binary64 0xC008_0000_0000_0000) ≡ negsuc 2
unfolding of_bits to_signed
minus_three = refl

minus_three_whole : is_whole (of_bits binary64 0xC008_0000_0000_0000) ≡ true
unfolding is_whole of_bits to_signed of_int eq
minus_three_whole = refl

with_a_fraction : is_whole (of_bits binary64 0x4004_0000_0000_0000) ≡ false
unfolding is_whole of_bits to_signed of_int eq
with_a_fraction = refl

minus_zero_lem : is_whole (of_bits binary64 0x8000_0000_0000_0000) ≡ true
unfolding is_whole of_bits to_signed of_int eq
minus_zero_lem = refl
