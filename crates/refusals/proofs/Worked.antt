-- Worked examples, by computation: the bounds and the next value past each, and the faults of two polygons. Assumes nothing.
use Prim.Native.Nat.{ℕ}
use mathlib.Core.Path.{◌≡◌, refl}
use mathlib.Core.Bool.{true, false}
use lib.Ieee.{inf, lt, le, eq, of_bits}
use Rattle.scalar.specs.Float.{float, f0, f1}
use mathlib.Core.List.{[], ◌∷◌}
use Rattle.refusals.specs.Refusals.{none, refuse}
use Rattle.refusals.specs.Bounds.{coordinate, every, finite, tolerance_ok}
use Rattle.refusals.specs.Lists.{Extent, fault_of}
use Rattle.refusals.specs.Rows.{of_two_polygons}
use Rattle.refusals.specs.Refusals.{Told}

-- 1,000,000 and the next f64
million : coordinate (float 0x412e_8480_0000_0000) ≡ true
unfolding coordinate of_bits
million = refl

past_million : coordinate (float 0x412e_8480_0000_0001) ≡ false
unfolding coordinate of_bits
past_million = refl

-- their negatives
minus_million : coordinate (float 0xc12e_8480_0000_0000) ≡ true
unfolding coordinate of_bits
minus_million = refl

past_minus_million : coordinate (float 0xc12e_8480_0000_0001) ≡ false
unfolding coordinate of_bits
past_minus_million = refl

-- the largest f64 is finite and no coordinate
largest : finite (float 0x7fef_ffff_ffff_ffff) ≡ true
unfolding finite of_bits
largest = refl

-- a tolerance: 0 and -0.0 are refused, the smallest f64 and 1 pass, the next f64 past 1 does not
zero : tolerance_ok f0 ≡ false
unfolding lt of_bits
zero = refl

minus_zero_lem : tolerance_ok (float 0x8000_0000_0000_0000) ≡ false
unfolding lt of_bits
minus_zero_lem = refl

smallest : tolerance_ok (float 1) ≡ true
unfolding lt le eq of_bits
smallest = refl

one : tolerance_ok f1 ≡ true
unfolding lt le eq of_bits
one = refl

past_one : tolerance_ok (float 0x3ff0_0000_0000_0001) ≡ false
unfolding lt le eq of_bits
past_one = refl

-- a number out of bounds in the first list, and too few vertices in the second: the lists' faults come first
numbers_last : of_two_polygons (inf false ∷ f0 ∷ f1 ∷ f0 ∷ f0 ∷ f1 ∷ []) (f0 ∷ f0 ∷ f1 ∷ f1 ∷ []) ≡ refuse 8 1
unfolding of_two_polygons every coordinate
numbers_last = refl

-- ---- two polygons of so many numbers

abbrev polygon : ℕ → Extent
polygon n = record { width = 2; least = 3; most = 256; size = n }

abbrev two : ℕ → ℕ → Told
two a b = fault_of (polygon a ∷ polygon b ∷ [])

both_fine : two 6 512 ≡ none
both_fine = refl

-- of one list 1 comes before 8 and before 9
odd_before_few : two 5 6 ≡ refuse 1 0
odd_before_few = refl

odd_before_many : two 513 6 ≡ refuse 1 0
odd_before_many = refl

-- the first list is done before the second is looked at
few : two 4 7 ≡ refuse 8 0
few = refl

many : two 514 4 ≡ refuse 9 0
many = refl

-- the second list is told as 1
second_odd : two 6 7 ≡ refuse 1 1
second_odd = refl

second_few : two 512 4 ≡ refuse 8 1
second_few = refl

second_many : two 6 514 ≡ refuse 9 1
second_many = refl

empty : two 6 0 ≡ refuse 8 1
empty = refl
