-- The radicand of the value with the bit pattern b, val b * 2 ^ 1074, as m * 2 ^ t with an m of 53 digits. A subnormal
-- value has fewer digits than that: its leading zeros tell how far they move up. Assumes nothing.
use mathlib.Core.Path.{◌≡◌}
use mathlib.Core.Logic.{inl, inr}
use Prim.Native.Nat.{ℕ, suc, ◌+◌, ◌-◌, ◌*◌, ◌/◌, ◌%◌, ◌^◌, ◌≤◌, ◌<◌}
use native.Mathlib.Omega.{arith}
use native.Mathlib.Nat.{lt_of_le_of_lt, lt_of_not-le, not-le_of_lt, mul_assoc, mul-le-mul_right, mod-eq_of_lt}
use lib.Pow.{pow-add, pow_mono, shl_lt}
use lib.Count.{count_leading_zeros, leading_top}
use Rattle.square_root.specs.Root.{Radicand}
use Rattle.square_root.specs.Nearest.{val}
use Rattle.square_root.proofs.Numbers.{lt_or_le}
use Rattle.square_root.proofs.Values.{val_low, val_high}

-- how far the digits of a subnormal value move up
abbrev shift : ℕ → ℕ
shift b = count_leading_zeros 64 b - 11

module _ (b : ℕ) (lo : 0 < b) (hi : b < 2 ^ 52) where
  -- the place of the highest digit, and the shift, make 52
  top : (j : ℕ) × (count_leading_zeros 64 b + suc j ≡ 64) × (j < 52) × (2 ^ j ≤ b) × (b < 2 ^ suc j)
  top =
      let t = leading_top 64 b lo (omega arith) in
      let small : t.0 < 52 =
      lt_of_not-le (λ (g : 52 ≤ t.0). not-le_of_lt (lt_of_le_of_lt t.2 hi) (pow_mono g)) in
      (t.0, t.1, small, t.2, t.3)

  pub zeros : (11 ≤ count_leading_zeros 64 b) × (count_leading_zeros 64 b < 64)
  zeros = let t = top in omega arith

  moved_ge : 2 ^ 52 ≤ b * 2 ^ shift b
  moved_ge =
      let t = top in
      let e : t.0 + shift b ≡ 52 = omega arith in
      rw (← pow-add 2 t.0 (shift b), e) at (mul-le-mul_right (2 ^ shift b) t.3)

  moved_lt : b * 2 ^ shift b < 2 ^ 53
  moved_lt =
      let t = top in
      let e : suc t.0 + shift b ≡ 53 = omega arith in
      rw e at (shl_lt (suc t.0) (shift b) t.4)

  -- no digit is lost at the top of a word
  moved_is : b * 2 ^ shift b % 2 ^ 64 ≡ b * 2 ^ shift b
  moved_is = let h = moved_lt in mod-eq_of_lt (omega arith)

  pub low_digits : (2 ^ 52 ≤ b * 2 ^ shift b % 2 ^ 64) × (b * 2 ^ shift b % 2 ^ 64 < 2 ^ 53)
  low_digits = rw moved_is (moved_ge, moved_lt)

  low_form : Radicand (b * 2 ^ shift b % 2 ^ 64) (1074 - shift b)
  low_form =
      let z = zeros in
      record { long = low_digits.0; short = low_digits.1; least = omega arith; most = omega arith }

  pub low_same : b * 2 ^ shift b % 2 ^ 64 * 2 ^ (1074 - shift b) ≡ val b * 2 ^ 1074
  low_same =
      let z = zeros in
      let e : shift b + (1074 - shift b) ≡ 1074 = omega arith in
      rw (moved_is, mul_assoc, ← pow-add, e, val_low b hi)

module _ (b : ℕ) (lo : 2 ^ 52 ≤ b) (hi : b < 2047 * 2 ^ 52) where
  high_form : Radicand (b % 2 ^ 52 + 2 ^ 52) (b / 2 ^ 52 + 1073)
  high_form = record { long = omega arith; short = omega arith; least = omega arith; most = omega arith }

  pub high_same : (b % 2 ^ 52 + 2 ^ 52) * 2 ^ (b / 2 ^ 52 + 1073) ≡ val b * 2 ^ 1074
  high_same =
      let e : b / 2 ^ 52 + 1073 ≡ b / 2 ^ 52 - 1 + 1074 = omega arith in
      rw (e, pow-add, ← mul_assoc, val_high b lo)

pub radicand : (b : ℕ) → 0 < b → b < 2047 * 2 ^ 52
    → (m : ℕ) × (t : ℕ) × Radicand m t × (m * 2 ^ t ≡ val b * 2 ^ 1074)
radicand b lo hi =
    elim (lt_or_le b (2 ^ 52)) [
      | inl l ↦ (b * 2 ^ shift b % 2 ^ 64, 1074 - shift b, low_form b lo l, low_same b lo l)
      | inr g ↦ (b % 2 ^ 52 + 2 ^ 52, b / 2 ^ 52 + 1073, high_form b g hi, high_same b g hi)
    ]
