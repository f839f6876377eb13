-- Worked examples, by computation: twice the area of a triangle and of a figure eight, the area of the triangle, and refusals.
use mathlib.Core.Path.{◌≡◌, refl}
use mathlib.Core.List.{List, [], ◌∷◌}
use lib.Ieee.{Float, nan, add, sub, mul, div, of_bits}
use Rattle.scalar.specs.Float.{float, f0}
use Rattle.ring.specs.Ring.{point_at}
use Rattle.refusals.specs.Refusals.{refuse}
use Rattle.refusals.specs.Bounds.{coordinate, every}
use Rattle.refusals.specs.Rows.{of_ring}
use Rattle.refusals.specs.Answers.{answers, refuses}
use Rattle.signed_area.specs.Area.{term_of, sum_to, area2_of, added_of, kahan_to, robust_of}
use Rattle.signed_area.specs.Calls.{area2_call, robust_call}

abbrev two : Float
two = float 0x4000_0000_0000_0000

abbrev three : Float
three = float 0x4008_0000_0000_0000

abbrev four : Float
four = float 0x4010_0000_0000_0000

-- (0,0), (4,0), (0,3)
abbrev triangle : List Float
triangle = f0 ∷ f0 ∷ four ∷ f0 ∷ f0 ∷ three ∷ []

triangle_twice : area2_call triangle ≡ answers (float 0x4028_0000_0000_0000)
unfolding of_ring every coordinate area2_of sum_to term_of point_at add sub mul of_bits
triangle_twice = refl

triangle_area : robust_call triangle ≡ answers (float 0x4018_0000_0000_0000)
unfolding of_ring every coordinate robust_of kahan_to added_of term_of point_at add sub mul div of_bits
triangle_area = refl

-- (0,0), (2,2), (2,0), (0,2)
eight_twice : area2_call (f0 ∷ f0 ∷ two ∷ two ∷ two ∷ f0 ∷ f0 ∷ two ∷ []) ≡ answers f0
unfolding of_ring every coordinate area2_of sum_to term_of point_at add sub mul of_bits
eight_twice = refl

no_vertex : area2_call [] ≡ answers f0
unfolding of_ring every area2_of sum_to
no_vertex = refl

odd_length : area2_call (f0 ∷ f0 ∷ four ∷ []) ≡ refuses (refuse 1 0)
unfolding of_ring
odd_length = refl

no_number : area2_call (f0 ∷ f0 ∷ four ∷ nan ∷ []) ≡ refuses (refuse 2 0)
unfolding of_ring every coordinate of_bits
no_number = refl
