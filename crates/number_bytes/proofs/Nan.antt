-- Which floats, and which bit patterns, are a NaN. Assumes nothing.
use Prim.Native.Nat.{ℕ, ◌*◌, ◌%◌, ◌^◌, ◌≤◌, ◌<◌}
use mathlib.Core.Path.{◌≡◌, refl, sym, ◌∙◌}
use mathlib.Core.Bool.{true, false, not}
use native.Mathlib.Omega.{arith}
use lib.Dec.{T}
use lib.Ieee.{Float, nan, inf, fin, binary64, eq, div, is_nan, nan_bits, of_bits, to_bits, up, down}
use lib.Ieee.Bits.{nan_bits_is, nan_bits_above}
use borrow.Author.Tests.{lt-ltb, le-ltb, eq-eqb}

pub equals_itself : (x : Float) → eq x x ≡ true → T (not (is_nan x))
unfolding eq is_nan
equals_itself nan h = absurd (let z : ◌≡◌ {A = ℕ} 0 1 = cc in omega arith)
equals_itself (inf s) h = tt
equals_itself (fin s m e) h = tt

-- a number equals itself, so what does not is a NaN, and that has one pattern
pub differs_from_itself : (x : Float) → eq x x ≡ false → 0x7ff8_0000_0000_0000 ≡ to_bits binary64 x
unfolding eq to_bits
differs_from_itself nan h = refl
differs_from_itself (inf true) h = absurd (let z : ◌≡◌ {A = ℕ} 0 1 = cc in omega arith)
differs_from_itself (inf false) h = absurd (let z : ◌≡◌ {A = ℕ} 0 1 = cc in omega arith)
differs_from_itself (fin true m e) h = absurd (let q = eq-eqb (m * up e * down e) (m * up e * down e) refl in let z : ◌≡◌ {A = ℕ} 0 1 = cc in omega arith)
differs_from_itself (fin false m e) h = absurd (let q = eq-eqb (m * up e * down e) (m * up e * down e) refl in let z : ◌≡◌ {A = ℕ} 0 1 = cc in omega arith)

is_nan_lem : (x : Float) → is_nan x ≡ true → nan ≡ x
unfolding is_nan
is_nan_lem nan h = refl
is_nan_lem (inf s) h = cc
is_nan_lem (fin s m e) h = cc

module _ (b : ℕ) where
  above : 0x7ff0_0000_0000_0000 < b % 2 ^ 63 → nan_bits binary64 b ≡ true
  above h = nan_bits_above binary64 b ∙ lt-ltb 0x7ff0_0000_0000_0000 (b % 2 ^ 63) h

  pub a_nan : 0x7ff0_0000_0000_0000 < b % 2 ^ 63 → div binary64 (of_bits binary64 0) (of_bits binary64 0) ≡ of_bits binary64 b
  unfolding div of_bits
  a_nan h = is_nan_lem (of_bits binary64 b) (sym (nan_bits_is binary64 b) ∙ above h)

  pub no_nan : b % 2 ^ 63 ≤ 0x7ff0_0000_0000_0000 → T (not (nan_bits binary64 b))
  no_nan h = rw (nan_bits_above, le-ltb 0x7ff0_0000_0000_0000 (b % 2 ^ 63) h) tt
