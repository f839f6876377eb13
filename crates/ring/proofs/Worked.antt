-- Worked examples, by computation: Q moved by (-5, 1), and by (6, 1). Assumes nothing.
use mathlib.Core.Path.{◌≡◌, refl}
use mathlib.Core.List.{List, [], ◌∷◌}
use lib.Ieee.{Float, add, of_bits}
use Rattle.scalar.specs.Float.{float, f0, f1}
use Rattle.plane.specs.Vector.{point, plus_of}
use Rattle.ring.specs.Ring.{point_at}
use Rattle.ring.specs.Points.{points}
use Rattle.ring.specs.Moved.{moved_of}

abbrev pub f2 : Float
f2 = float 0x4000_0000_0000_0000

abbrev pub f3 : Float
f3 = float 0x4008_0000_0000_0000

abbrev pub f4 : Float
f4 = float 0x4010_0000_0000_0000

abbrev pub f6 : Float
f6 = float 0x4018_0000_0000_0000

abbrev pub f8 : Float
f8 = float 0x4020_0000_0000_0000

abbrev minus3 : Float
minus3 = float 0xc008_0000_0000_0000

abbrev minus5 : Float
minus5 = float 0xc014_0000_0000_0000

abbrev pub S : List Float
S = f0 ∷ f0 ∷ f4 ∷ f0 ∷ f4 ∷ f4 ∷ f0 ∷ f4 ∷ []

abbrev pub Q : List Float
Q = f0 ∷ f0 ∷ f2 ∷ f0 ∷ f2 ∷ f2 ∷ f0 ∷ f2 ∷ []

to_the_left : moved_of Q (point minus5 f1) ≡ minus5 ∷ f1 ∷ minus3 ∷ f1 ∷ minus3 ∷ f3 ∷ minus5 ∷ f3 ∷ []
unfolding moved_of points plus_of point_at add of_bits
to_the_left = refl

to_the_right : moved_of Q (point f6 f1) ≡ f6 ∷ f1 ∷ f8 ∷ f1 ∷ f8 ∷ f3 ∷ f6 ∷ f3 ∷ []
unfolding moved_of points plus_of point_at add of_bits
to_the_right = refl
