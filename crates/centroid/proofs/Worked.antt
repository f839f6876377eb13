-- Worked examples, by computation: a square's centroid is its middle, by its area; that of a ring without area is the mean of its vertices. Assumes nothing.
use Rattle.std.proofs.Common.{◌≡◌, [], ◌∷◌, refl}
use lib.Ieee.{Float, add, sub, mul, div, lt, of_bits, of_int}
use Rattle.scalar.specs.Float.{float, f0, f1}
use Rattle.scalar.specs.Scalar.{abs_of}
use Rattle.plane.specs.Vector.{point, plus_of}
use Rattle.ring.specs.Ring.{point_at}
use Rattle.centroid.specs.Centroid.{grown_of, moments_to, total_to, mean_of, centroid_of}

abbrev f2 : Float
f2 = float 0x4000_0000_0000_0000

abbrev f4 : Float
f4 = float 0x4010_0000_0000_0000

square : centroid_of (f0 ∷ f0 ∷ f4 ∷ f0 ∷ f4 ∷ f4 ∷ f0 ∷ f4 ∷ []) ≡ point f2 f2
unfolding centroid_of moments_to grown_of point_at abs_of add sub mul div lt of_bits
square = refl

-- crossing itself, its two halves weigh nothing together
crossed : centroid_of (f0 ∷ f0 ∷ f2 ∷ f2 ∷ f2 ∷ f0 ∷ f0 ∷ f2 ∷ []) ≡ point f1 f1
unfolding centroid_of mean_of total_to moments_to grown_of plus_of point_at abs_of add sub mul div lt of_bits of_int
crossed = refl
