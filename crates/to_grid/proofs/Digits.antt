-- The arithmetic of `halves` and `steps`: the digits taken apart, and what a value is in units of 2 ^ -1074. Assumes nothing.
use Prim.Native.Nat.{ℕ, ◌+◌, ◌*◌, ◌-◌, ◌/◌, ◌%◌, ◌^◌, ◌≤◌, ◌<◌}
use native.Mathlib.Omega.{arith}
use native.Mathlib.Nat.{le_of_lt, mul-pos, mul-le-mul, mul-le-mul_left, div-add-mod, div-div-eq-div-mul, lt_of_le_of_lt, div-eq_of_lt}
use mathlib.Core.Path.{◌≡◌, sym, ap, ◌∙◌}
use mathlib.Core.Logic.{inl, inr}
use lib.Dec.{lit≤}
use lib.Pow.{pow-add, pow_pos, shr_le}
use Rattle.square_root.specs.Nearest.{val}
use Rattle.square_root.proofs.Numbers.{lt_or_le}
use Rattle.square_root.proofs.Values.{val_high, val_at, val_mono}
use Rattle.to_grid.specs.Grid.{nearest_to}
use Rattle.to_grid.proofs.Rounding.{nearest_none, nearest_same, nearest_halves}

-- n times the digits m, cut by 2 ^ 32, and how large its parts are
pub taken_apart : (n m : ℕ) → n * (m / 4294967296) + n * (m % 4294967296) / 4294967296 ≡ n * m / 4294967296
taken_apart n m = omega (arith, ap (λ z. n * z) (div-add-mod m 4294967296))

module _ (m n : ℕ) (long : m < 2 ^ 53) (few : n ≤ 1000000) where
  pub upper_small : n * (m / 4294967296) ≤ 1000000 * 2097151
  upper_small = let d : m / 4294967296 ≤ 2097151 = omega arith in mul-le-mul few d

  pub lower_small : n * (m % 4294967296) ≤ 1000000 * 4294967295
  lower_small = let d : m % 4294967296 ≤ 4294967295 = omega arith in mul-le-mul few d

  halves_small : n * m / 4294967296 < 2 ^ 41
  halves_small = omega (arith, mul-le-mul few (le_of_lt long))

  pub cut_small : (t : ℕ) → n * m / 4294967296 / 2 ^ t < 2 ^ 41
  cut_small t = lt_of_le_of_lt (shr_le (n * m / 4294967296) t) halves_small

-- a unit of the grid in units of 2 ^ -1074, by the places t and the exponent j + 1
unit : (t j : ℕ) → t + j ≡ 1041 → 2 * (4294967296 * 2 ^ t) * 2 ^ j ≡ 2 ^ 1074
unit t j h =
    let e : 33 + t + j ≡ 1074 = omega arith in
    let f : 2 * (4294967296 * 2 ^ t) ≡ 2 ^ 33 * 2 ^ t = omega arith in
    ap (λ z. z * 2 ^ j) (f ∙ sym (pow-add 2 33 t)) ∙ sym (pow-add 2 (33 + t) j) ∙ ap (λ z. 2 ^ z) e

at_steps : (n m t j : ℕ) → t + j ≡ 1041 → (n * m / 4294967296 / 2 ^ t + 1) / 2 ≡ nearest_to (n * (m * 2 ^ j)) (2 ^ 1074)
at_steps n m t j h =
    let c = 4294967296 * 2 ^ t in
    let e : n * m * 2 ^ j ≡ n * (m * 2 ^ j) = omega arith in
    ap (λ z. (z + 1) / 2) (div-div-eq-div-mul (n * m) 4294967296 (2 ^ t))
    ∙ nearest_halves (n * m) c (mul-pos (omega arith) (pow_pos t))
    ∙ sym (nearest_same (n * m) (2 * c) (2 ^ j) (pow_pos j))
    ∙ (rw (e, unit t j h))

-- ---- of a pattern b and its digits

abbrev pub digits_of : ℕ → ℕ
digits_of b = b % 4503599627370496 + 4503599627370496

module _ (b n : ℕ) (few : n ≤ 1000000) where
  -- too small for half a unit
  none : b / 4503599627370496 < 979 → (n * digits_of b / 4294967296 / 2 ^ 63 + 1) / 2 ≡ nearest_to (n * val b) (2 ^ 1074)
  none h =
      let v : val b ≤ 2 ^ 1030 =
      rw (val_at 978 (2 ^ 52) (omega arith) (omega arith)) at (val_mono {b = b} {c = 978 * 2 ^ 52 + 2 ^ 52} (omega arith)) in
      let l : 2 * (1000000 * 2 ^ 1030) < 2 ^ 1074 = lit≤ tt in
      let k = halves_small (digits_of b) n (omega arith) few in
      let z : n * digits_of b / 4294967296 / 2 ^ 63 ≡ 0 = div-eq_of_lt (omega arith) in
      ap (λ x. (x + 1) / 2) z ∙ sym (nearest_none (n * val b) (2 ^ 1074) (lt_of_le_of_lt (mul-le-mul_left 2 (mul-le-mul few v)) l))

  some : 979 ≤ b / 4503599627370496 → b / 4503599627370496 ≤ 1042
      → (n * digits_of b / 4294967296 / 2 ^ (1042 - b / 4503599627370496) + 1) / 2 ≡ nearest_to (n * val b) (2 ^ 1074)
  some lo hi =
      rw (val_high b (omega arith))
      (at_steps n (digits_of b) (1042 - b / 4503599627370496) (b / 4503599627370496 - 1) (omega arith))

  pub steps_is : (t : ℕ) → b / 4503599627370496 ≤ 1042 → (b / 4503599627370496 < 979 → t ≡ 63)
      → (979 ≤ b / 4503599627370496 → t ≡ 1042 - b / 4503599627370496)
      → (n * digits_of b / 4294967296 / 2 ^ t + 1) / 2 ≡ nearest_to (n * val b) (2 ^ 1074)
  steps_is t hi small large =
      elim (lt_or_le (b / 4503599627370496) 979) [ inl l ↦ rw (small l) (none l) | inr g ↦ rw (large g) (some g hi) ]
