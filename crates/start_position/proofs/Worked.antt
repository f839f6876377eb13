-- Worked examples, by computation: S and Q start at (0, -2); and of vertices that are equal the first of stationary and the last of orbiting are
-- taken. Assumes nothing.
use mathlib.Core.Path.{◌≡◌, refl}
use mathlib.Core.Bool.{true, false}
use mathlib.Core.List.{List, [], ◌∷◌}
use lib.Ieee.{Float, sub, lt, of_bits}
use Rattle.scalar.specs.Float.{float, f0, f1}
use Rattle.plane.specs.Vector.{point, minus_of}
use Rattle.ring.specs.Ring.{point_at}
use Rattle.refusals.specs.Refusals.{refuse}
use Rattle.refusals.specs.Bounds.{coordinate, every}
use Rattle.refusals.specs.Rows.{of_two_polygons}
use Rattle.refusals.specs.Answers.{answers, refuses}
use Rattle.laws.specs.FirstBest.{better, over}
use Rattle.start_position.specs.Start.{lower_of, upper_of, extreme_vertex, start_of}
use Rattle.start_position.specs.Calls.{start_call}

abbrev two : Float
two = float 0x4000_0000_0000_0000

abbrev four : Float
four = float 0x4010_0000_0000_0000

abbrev minus_zero_lem : Float
minus_zero_lem = float 0x8000_0000_0000_0000

abbrev S : List Float
S = f0 ∷ f0 ∷ four ∷ f0 ∷ four ∷ four ∷ f0 ∷ four ∷ []

abbrev Q : List Float
Q = f0 ∷ f0 ∷ two ∷ f0 ∷ two ∷ two ∷ f0 ∷ two ∷ []

starts : start_call S Q ≡ answers (point f0 (float 0xc000_0000_0000_0000))
unfolding of_two_polygons every coordinate start_of extreme_vertex over better lower_of upper_of point_at minus_of sub lt of_bits
starts = refl

-- (0, 0), (-0.0, -0.0) and a third: the two are equal as numbers
abbrev equals : Float → List Float
equals y = f0 ∷ f0 ∷ minus_zero_lem ∷ minus_zero_lem ∷ f1 ∷ y ∷ []

first_of_equals : extreme_vertex false (equals f1) ≡ point f0 f0
unfolding extreme_vertex over better lower_of point_at lt of_bits
first_of_equals = refl

last_of_equals : extreme_vertex true (equals (float 0xbff0_0000_0000_0000)) ≡ point minus_zero_lem minus_zero_lem
unfolding extreme_vertex over better upper_of point_at lt of_bits
last_of_equals = refl

-- two vertices are no polygon
too_short : start_call S (f0 ∷ f0 ∷ f1 ∷ f1 ∷ []) ≡ refuses (refuse 8 1)
unfolding of_two_polygons every coordinate
too_short = refl
