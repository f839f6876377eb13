-- Worked examples, by computation: the zeros, NaN and the infinities.
use mathlib.Core.Path.{◌≡◌, refl}
use mathlib.Core.Bool.{true, false}
use lib.Ieee.{Float, nan, inf, lt, neg, of_bits}
use Rattle.scalar.specs.Float.{float, f0, f1}
use Rattle.scalar.specs.Scalar.{abs_of, minus_zero, ahead, or_number, smaller_of, larger_of, clamp_of}

abbrev minus_zero_lem : Float
minus_zero_lem = float 0x8000_0000_0000_0000

abs_minus_zero : abs_of minus_zero_lem ≡ f0
unfolding abs_of of_bits
abs_minus_zero = refl

abs_infinity : abs_of (inf true) ≡ inf false
unfolding abs_of
abs_infinity = refl

smaller_zero : smaller_of f0 minus_zero_lem ≡ minus_zero_lem
unfolding smaller_of or_number ahead minus_zero lt neg of_bits
smaller_zero = refl

larger_zero : larger_of minus_zero_lem f0 ≡ f0
unfolding larger_of or_number ahead minus_zero lt neg of_bits
larger_zero = refl

smaller_number : smaller_of nan f1 ≡ f1
unfolding smaller_of or_number of_bits
smaller_number = refl

larger_nan : larger_of nan nan ≡ nan
unfolding larger_of or_number
larger_nan = refl

clamp_minus_zero : clamp_of minus_zero_lem f0 f1 ≡ minus_zero_lem
unfolding clamp_of lt of_bits
clamp_minus_zero = refl

clamp_nan : clamp_of nan f0 f1 ≡ nan
unfolding clamp_of lt of_bits
clamp_nan = refl
