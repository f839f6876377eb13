-- The sign of what an operation rounds to: that of a sum of two squares is clear. Assumes nothing.
use mathlib.Core.Path.{◌≡◌, refl}
use mathlib.Core.Bool.{Bool, true, false, cond}
use Prim.Native.Nat.{ℕ, zero, suc, ◌+◌, ◌*◌, ◌^◌}
use lib.Dec.{ltb}
use lib.Ieee.{Float, nan, inf, fin, binary64, up, down, odd, units, round, sum, add, mul}
use lib.Ieee.Fits.{round_is}
use Rattle.scalar.specs.Float.{◌⊕◌, ◌⊗◌}
use Rattle.ring_distance.specs.Squared.{sign}

odd_sign : (d : ℕ) (s : Bool) (q k l : ℕ) → sign (odd d s q k l) ≡ s
unfolding odd
odd_sign d s zero k l = refl
odd_sign d s (suc q) k l = refl

units_sign : (s : Bool) (q k : ℕ) → sign (units binary64 s q k) ≡ s
unfolding units
units_sign s q k = by (ltb (q * 2 ^ k) (2 ^ 2098))
  where
    by : (b : Bool) → sign (cond b (odd 54 s q k 1074) (inf s)) ≡ s
    by true = odd_sign 54 s q k 1074
    by false = refl

pub round_sign : (s : Bool) (a b : ℕ) → sign (round binary64 s a b) ≡ s
round_sign s a b = rw round_is (units_sign s _ _)

square_sign : (x : Float) → sign (x ⊗ x) ≡ false
unfolding mul
square_sign nan = refl
square_sign (inf true) = refl
square_sign (inf false) = refl
square_sign (fin true m e) = round_sign false (m * up e * (m * up e)) (down e * down e)
square_sign (fin false m e) = round_sign false (m * up e * (m * up e)) (down e * down e)

sum_sign : (x y : Float) → sign x ≡ false → sign y ≡ false → sign (x ⊕ y) ≡ false
unfolding add sum
sum_sign nan y h k = refl
sum_sign (inf s) nan h k = refl
sum_sign (inf true) (inf t) h k = cc
sum_sign (inf false) (inf true) h k = cc
sum_sign (inf false) (inf false) h k = refl
sum_sign (inf s) (fin t n d) h k = h
sum_sign (fin s m e) nan h k = refl
sum_sign (fin s m e) (inf t) h k = k
sum_sign (fin true m e) (fin t n d) h k = cc
sum_sign (fin false m e) (fin true n d) h k = cc
sum_sign (fin false m e) (fin false n d) h k = round_sign false (m * up e * down d + n * up d * down e) (down e * down d)

pub squares_sign : (x y : Float) → sign (x ⊗ x ⊕ y ⊗ y) ≡ false
squares_sign x y = sum_sign (x ⊗ x) (y ⊗ y) (square_sign x) (square_sign y)
