-- Worked examples, by computation: a square that goes clockwise is reversed, one that goes counter-clockwise stays, and so does a ring without area.
-- Assumes nothing.
use mathlib.Core.Path.{◌≡◌, refl}
use mathlib.Core.List.{[], ◌∷◌}
use lib.Ieee.{add, sub, mul, div, lt, of_bits}
use Rattle.scalar.specs.Float.{f0}
use Rattle.ring.specs.Ring.{point_at}
use Rattle.ring.specs.Points.{points}
use Rattle.ring.proofs.Worked.{f2, f4, S}
use Rattle.winding.specs.Winding.{area_added, area_sum, area_of, reversed, ccw_of}

clockwise : ccw_of (f0 ∷ f0 ∷ f0 ∷ f4 ∷ f4 ∷ f4 ∷ f4 ∷ f0 ∷ []) ≡ f4 ∷ f0 ∷ f4 ∷ f4 ∷ f0 ∷ f4 ∷ f0 ∷ f0 ∷ []
unfolding ccw_of reversed points area_of area_sum area_added point_at add sub mul div lt of_bits
clockwise = refl

counter_clockwise : ccw_of S ≡ S
unfolding ccw_of area_of area_sum area_added point_at add sub mul div lt of_bits
counter_clockwise = refl

crossed : ccw_of (f0 ∷ f0 ∷ f2 ∷ f2 ∷ f2 ∷ f0 ∷ f0 ∷ f2 ∷ []) ≡ f0 ∷ f0 ∷ f2 ∷ f2 ∷ f2 ∷ f0 ∷ f0 ∷ f2 ∷ []
unfolding ccw_of area_of area_sum area_added point_at add sub mul div lt of_bits
crossed = refl
