-- Worked examples, by computation: whole numbers and what is none, and where exactness ends.
use Prim.Native.Nat.{◌^◌}
use mathlib.Core.Path.{refl}
use native.Mathlib.Omega.{arith}
use lib.Ieee.{Float, add, of_bits}
use Rattle.scalar.specs.Float.{◌⊕◌, float, f0, f0·5, f1}
use Rattle.whole_floats.specs.Whole.{Whole}

-- -3.0, -0.0, 2^53
abbrev minus_three : Float
minus_three = float 0xc008_0000_0000_0000

abbrev minus_zero_lem : Float
minus_zero_lem = float 0x8000_0000_0000_0000

abbrev most : Float
most = float 0x4340_0000_0000_0000

below_zero : Whole minus_three 2 5
unfolding of_bits
below_zero = refl

zeros : (Whole f0 4 4) × (Whole minus_zero_lem 4 4)
unfolding of_bits
zeros = (refl, refl)

half : Whole f0·5 1 0 → ⊥
unfolding of_bits
half h = omega (arith, h)

at_the_end : Whole most (2 ^ 53) 0
unfolding of_bits
at_the_end = refl

-- one more is rounded away
past_the_end : Whole (most ⊕ f1) (2 ^ 53) 0
unfolding add of_bits
past_the_end = refl
