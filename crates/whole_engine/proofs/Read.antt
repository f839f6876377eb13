-- Coordinates that fit their type, as they are read: they are themselves. Assumes nothing.
use mathlib.Core.Path.{◌≡◌}
use lib.IntN.{ℤ}
use mir.Syntax.{w32}
use mir.Val.{to_z, of_z, SFits}
use mir.ValLaws.{to_z-of_z}

abbrev pub read : ℤ → ℤ
read x = to_z w32 (of_z w32 x)

module _ {A : Type 0} where
  pub six_read : (f : ℤ → ℤ → ℤ → ℤ → ℤ → ℤ → A) (a b c d e g : ℤ)
      → SFits w32 a → SFits w32 b → SFits w32 c → SFits w32 d → SFits w32 e → SFits w32 g
      → f (read a) (read b) (read c) (read d) (read e) (read g) ≡ f a b c d e g
  six_read f a b c d e g h1 h2 h3 h4 h5 h6 =
      rw (to_z-of_z w32 a h1, to_z-of_z w32 b h2, to_z-of_z w32 c h3, to_z-of_z w32 d h4, to_z-of_z w32 e h5, to_z-of_z w32 g h6)

  pub eight_read : (f : ℤ → ℤ → ℤ → ℤ → ℤ → ℤ → ℤ → ℤ → A) (a b c d e g i j : ℤ)
      → SFits w32 a → SFits w32 b → SFits w32 c → SFits w32 d → SFits w32 e → SFits w32 g → SFits w32 i → SFits w32 j
      → f (read a) (read b) (read c) (read d) (read e) (read g) (read i) (read j) ≡ f a b c d e g i j
  eight_read f a b c d e g i j h1 h2 h3 h4 h5 h6 h7 h8 =
      rw (
        to_z-of_z w32 a h1,
        to_z-of_z w32 b h2,
        to_z-of_z w32 c h3,
        to_z-of_z w32 d h4,
        to_z-of_z w32 e h5,
        to_z-of_z w32 g h6,
        to_z-of_z w32 i h7,
        to_z-of_z w32 j h8,
      )
