-- The operations of an `f64` as operators, each rounded once, and numbers by their bit patterns. Definitions only.
use Rattle.std.specs.Prelude.{ℕ, Float}
use Rattle.std.specs.Float.{binary64}
use Rattle.std.specs.Float.Ieee.{add, sub, mul, div, of_bits}

infixl 65 ◌⊕◌ ◌⊖◌
infixl 70 ◌⊗◌ ◌⊘◌
abbrev pub ◌⊕◌ : Float → Float → Float
◌⊕◌ a b = add binary64 a b

abbrev pub ◌⊖◌ : Float → Float → Float
◌⊖◌ a b = sub binary64 a b

abbrev pub ◌⊗◌ : Float → Float → Float
◌⊗◌ a b = mul binary64 a b

abbrev pub ◌⊘◌ : Float → Float → Float
◌⊘◌ a b = div binary64 a b

-- the number with a bit pattern
abbrev pub float : ℕ → Float
float bits = of_bits binary64 bits

-- 0.0, 0.5, 1.0, 2.0, 1e-6
abbrev pub f0 : Float
f0 = float 0

abbrev pub f0·5 : Float
f0·5 = float 0x3fe0_0000_0000_0000

abbrev pub f1 : Float
f1 = float 0x3ff0_0000_0000_0000

abbrev pub f2 : Float
f2 = float 0x4000_0000_0000_0000

abbrev pub f1e_6 : Float
f1e_6 = float 0x3eb0_c6f7_a0b5_ed8d
