-- Whole numbers in a program's input: words of four bytes with a sign, and floats that are whole numbers. Definitions only.
use Rattle.std.specs.Prelude.{ℕ, ◌-◌, Bool, cond, List, map, take, drop, ℤ, pos, negsuc, nat_lt, Float}
use Rattle.std.specs.Float.{binary64}
use Rattle.std.specs.Float.Ieee.{eq, to_signed, of_int}
use Rattle.number_bytes.specs.Bytes.{number_of}
use Rattle.refusals.specs.Bounds.{every}

-- the number of a word of 32 bits, in two's complement
unfoldable pub signed_of : ℕ → ℤ
signed_of w = cond (nat_lt w 2147483648) (pos w) (negsuc (4294967295 - w))

-- the word of four bytes at a byte of the input
abbrev pub whole_word_at : List ℕ → ℕ → ℤ
whole_word_at input at = signed_of (number_of (take 4 (drop at input)))

-- a float without its fraction
abbrev pub whole_part : Float → ℤ
whole_part x = to_signed 63 x

-- a float that is the whole number of its whole part
unfoldable pub is_whole : Float → Bool
is_whole x = eq (of_int binary64 (whole_part x)) x

-- each number of a list is whole
abbrev pub all_whole : List Float → Bool
all_whole xs = every is_whole xs

-- the whole numbers of a list
abbrev pub wholes : List Float → List ℤ
wholes xs = map whole_part xs
