-- Worked examples, by computation: the mirror of a triangle, and closing repeats of three and of four vertices.
use mathlib.Core.Path.{◌≡◌, refl}
use mathlib.Core.List.{[], ◌∷◌}
use lib.Ieee.{Float, neg, eq, of_bits}
use Rattle.scalar.specs.Float.{float, f0}
use Rattle.plane.specs.Vector.{same_of}
use Rattle.ring.specs.Ring.{point_at}
use Rattle.ring_copies.specs.Copies.{mirrored, open_count}

abbrev three : Float
three = float 0x4008_0000_0000_0000

abbrev four : Float
four = float 0x4010_0000_0000_0000

abbrev minus_four : Float
minus_four = float 0xc010_0000_0000_0000

abbrev minus_zero_lem : Float
minus_zero_lem = float 0x8000_0000_0000_0000

-- (0,0), (4,0), (0,3) has the mirror (-0.0,3), (-4,0), (-0.0,0)
mirror : mirrored (f0 ∷ f0 ∷ four ∷ f0 ∷ f0 ∷ three ∷ []) ≡ minus_zero_lem ∷ three ∷ minus_four ∷ f0 ∷ minus_zero_lem ∷ f0 ∷ []
unfolding mirrored neg of_bits
mirror = refl

-- three points with the last equal to the first stay
three_stay : open_count (f0 ∷ f0 ∷ four ∷ f0 ∷ f0 ∷ f0 ∷ []) ≡ 3
unfolding open_count
three_stay = refl

-- of four one is dropped, the two zeros being equal as numbers
four_open : open_count (f0 ∷ f0 ∷ four ∷ f0 ∷ f0 ∷ three ∷ minus_zero_lem ∷ f0 ∷ []) ≡ 3
unfolding open_count same_of point_at eq of_bits
four_open = refl
