-- The bit patterns of coordinates. Assumes nothing.
use Prim.Native.Nat.{ℕ, ◌%◌, ◌*◌, ◌^◌, ◌≤◌, ◌<◌}
use native.Mathlib.Omega.{arith}
use mathlib.Core.Path.{◌≡◌, refl, sym, subst, ◌∙◌}
use mathlib.Core.Bool.{Bool, true, false, not}
use lib.Dec.{T, ltb, eqb, not_T, ltb→lt}
use lib.Ieee.{Float, nan, inf, fin, binary64, is_nan, nan_bits, of_bits}
use lib.Ieee.Bits.{nan_bits_is, nan_bits_above}
use borrow.Author.Tests.{lt-ltb}
use Rattle.refusals.specs.Bounds.{coordinate}
use Rattle.reading.specs.Lent.{kept}
use Rattle.book_layout.specs.Layout.{coordinate_bits}
use Rattle.book_layout.proofs.Lent.{stored}
use Rattle.refusals.proofs.Coordinate.{coordinate_number}

-- what is no coordinate is no pattern of one, and of one it is asked whether it is as it is kept
pub no_coordinate : (b : ℕ) → coordinate (of_bits binary64 b) ≡ false → false ≡ coordinate_bits b
unfolding coordinate_bits
no_coordinate b e = rw e

pub as_kept : (b : ℕ) → coordinate (of_bits binary64 b) ≡ true → eqb (kept (of_bits binary64 b)) b ≡ coordinate_bits b
unfolding coordinate_bits
as_kept b e = rw e

-- a pattern above those of the infinities is a NaN's
pub too_high : (b : ℕ) → 2047 * 2 ^ 52 < b % 2 ^ 63 → false ≡ coordinate_bits b
too_high b h = no_coordinate b (go (of_bits binary64 b) (sym (nan_bits_is binary64 b) ∙ nan_bits_above binary64 b ∙ lt-ltb (2047 * 2 ^ 52) (b % 2 ^ 63) h))
  where
    go : (x : Float) → is_nan x ≡ true → coordinate x ≡ false
    go nan e = unfold coordinate in refl
    go (inf s) e = unfold is_nan in cc
    go (fin s m d) e = unfold is_nan in cc

-- and no other is
pub not_high : (b : ℕ) → b % 2 ^ 63 ≤ 2047 * 2 ^ 52 → T (not (nan_bits binary64 b))
not_high b h =
    subst (λ (t : Bool). T (not t)) (sym (nan_bits_above binary64 b))
    (not_T (ltb (2047 * 2 ^ 52) (b % 2 ^ 63)) (λ (u : T (ltb (2047 * 2 ^ 52) (b % 2 ^ 63))). go (ltb→lt (2047 * 2 ^ 52) (b % 2 ^ 63) u)))
  where
    go : 2047 * 2 ^ 52 < b % 2 ^ 63 → ⊥
    go k = omega arith

-- a coordinate's pattern is no NaN's
pub no_nan : (b : ℕ) → coordinate_bits b ≡ true → T (not (nan_bits binary64 b))
no_nan b h = subst (λ (t : Bool). T (not t)) (sym (nan_bits_is binary64 b)) (coordinate_number (of_bits binary64 b) (stored b h).0)
