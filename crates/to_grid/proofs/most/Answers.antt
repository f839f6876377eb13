-- `to_grid::most` meets its contract. Assumes nothing.
use Prim.Native.Nat.{ℕ, ◌+◌, ◌*◌, ◌-◌, ◌/◌, ◌%◌, ◌^◌, ◌≤◌, ◌<◌}
use native.Mathlib.Omega.{arith}
use mathlib.Core.Path.{◌≡◌, refl, sym, ap, subst}
use mathlib.Core.Bool.{not}
use lib.Dec.{T}
use lib.Count.{count_leading_zeros, leading_le}
use lib.Ieee.{binary64, of_bits, nan_bits}
use Rattle.square_root.proofs.Patterns.{no_nan}
use Rattle.to_grid.proofs.Million.{first_digits, left_over, more_digits, digits_by, pattern_by, zeros, first_moved, left_moved}
use Rattle.to_grid.proofs.Million.{digits_most, pattern_most, most_by}
use Rattle.to_grid.proofs.most.Goals as goal
use Rattle.to_grid.proofs.most.Goals.{Start}

zero : (c : Start)
    → (11 < count_leading_zeros 64 (first_digits c.args.units)) × (count_leading_zeros 64 (first_digits c.args.units) ≤ 31)
zero c = zeros c.args.units c.requires.0 c.requires.1

-- no digit is lost at the top of a word
whole : (c : Start)
    → first_digits c.args.units * 2 ^ more_digits c.args.units % 2 ^ 64
    + (left_over c.args.units * 2 ^ more_digits c.args.units % 2 ^ 64) / c.args.units
    ≡ digits_by c.args.units
whole c =
    rw (first_moved c.args.units c.requires.0 c.requires.1, left_moved c.args.units c.requires.0 c.requires.1) refl

pub overflow_cast-more : goal.overflow_cast-more
overflow_cast-more c = omega (arith, leading_le 64 (first_digits c.args.units))

pub overflow_sub-more : goal.overflow_sub-more
overflow_sub-more c = omega (arith, zero c)

pub overflow_shl-digits : goal.overflow_shl-digits
overflow_shl-digits c = omega (arith, zero c)

pub overflow_shl-digits-2 : goal.overflow_shl-digits-2
overflow_shl-digits-2 c = omega (arith, zero c)

pub overflow_add-digits : goal.overflow_add-digits
overflow_add-digits c = omega (arith, whole c, digits_most c.args.units c.requires.0 c.requires.1)

pub overflow_sub-result : goal.overflow_sub-result
overflow_sub-result c = omega (arith, zero c)

pub overflow_add-result : goal.overflow_add-result
overflow_add-result c = omega (arith, whole c, zero c, pattern_most c.args.units c.requires.0 c.requires.1)

pub float_from_bits-result : goal.float_from_bits-result
float_from_bits-result c =
    let n = c.args.units in
    subst (λ (d : ℕ). T (not (nan_bits binary64 ((1042 - more_digits n) * 4503599627370496 + d)))) (sym (whole c))
    (no_nan (pattern_by n) (omega (arith, pattern_most n c.requires.0 c.requires.1)))

pub returns : goal.returns
returns c =
    let n = c.args.units in
    most_by n c.requires.0 c.requires.1 (ap (λ (d : ℕ). of_bits binary64 ((1042 - more_digits n) * 4503599627370496 + d)) (whole c))
