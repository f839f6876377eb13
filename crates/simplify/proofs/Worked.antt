-- Worked examples, by computation, with the tolerance 1e-6: of (0, 0), (1, 0), (2, 0) two survive, so all three stay; with (2, 2) added the point
-- (1, 0) goes, and a room that is one number short is left as it was. Assumes nothing.
use mathlib.Core.Path.{◌≡◌, refl}
use mathlib.Core.List.{List, [], ◌∷◌, ◌++◌}
use lib.Ieee.{Float, inf, add, sub, mul, div, lt, le, eq, of_bits}
use mathlib.Core.Bool.{false}
use Rattle.scalar.specs.Float.{float, f0, f1}
use Rattle.scalar.specs.Scalar.{clamp_of}
use Rattle.square_root.specs.Root.{sqrt_of}
use Rattle.plane.specs.Vector.{minus_of, dot_of, cross_of, length_of, distance_of, turn_of}
use Rattle.plane.specs.Segment.{clamped_foot, project_of, along_of, to_segment_of}
use Rattle.ring.specs.Ring.{point_at, previous_vertex}
use Rattle.refusals.specs.Rows.{of_list}
use Rattle.refusals.specs.Refusals.{refuse}
use Rattle.refusals.specs.Bounds.{every, finite}
use Rattle.refusals.specs.Answers.{answers, refuses}
use Rattle.simplify.specs.Simplify.{stays_of, piece, survivors, simplified}
use Rattle.simplify.specs.Calls.{simplify_refusal, simplify_call, simplify_room}

abbrev two : Float
two = float 0x4000_0000_0000_0000

-- 1e-6
abbrev tolerance : Float
tolerance = float 0x3eb0_c6f7_a0b5_ed8d

abbrev line : List Float
line = f0 ∷ f0 ∷ f1 ∷ f0 ∷ two ∷ f0 ∷ []

abbrev corner : List Float
corner = two ∷ two ∷ []

abbrev room : List Float
room = f1 ∷ f1 ∷ f1 ∷ f1 ∷ f1 ∷ f1 ∷ f1 ∷ []

two_survive : survivors line tolerance 3 ≡ f0 ∷ f0 ∷ two ∷ f0 ∷ []
unfolding survivors piece stays_of previous_vertex point_at turn_of to_segment_of along_of project_of clamped_foot clamp_of distance_of length_of minus_of dot_of cross_of sqrt_of add sub mul div lt le eq of_bits
two_survive = refl

all_stay : simplify_call line tolerance 7 ≡ answers 3
unfolding simplify_refusal of_list every finite simplified survivors piece stays_of previous_vertex point_at turn_of to_segment_of along_of project_of clamped_foot clamp_of distance_of length_of minus_of dot_of cross_of sqrt_of add sub mul div lt le eq of_bits
all_stay = refl

all_written : simplify_room line tolerance room ≡ line ++ (f1 ∷ [])
unfolding simplify_refusal of_list every finite simplified survivors piece stays_of previous_vertex point_at turn_of to_segment_of along_of project_of clamped_foot clamp_of distance_of length_of minus_of dot_of cross_of sqrt_of add sub mul div lt le eq of_bits
all_written = refl

one_goes : simplify_room (line ++ corner) tolerance room ≡ f0 ∷ f0 ∷ two ∷ f0 ∷ two ∷ two ∷ f1 ∷ []
unfolding simplify_refusal of_list every finite simplified survivors piece stays_of previous_vertex point_at turn_of to_segment_of along_of project_of clamped_foot clamp_of distance_of length_of minus_of dot_of cross_of sqrt_of add sub mul div lt le eq of_bits
one_goes = refl

one_short : simplify_call (line ++ corner) tolerance 5 ≡ refuses (refuse 5 0)
unfolding simplify_refusal of_list every finite simplified survivors piece stays_of previous_vertex point_at turn_of to_segment_of along_of project_of clamped_foot clamp_of distance_of length_of minus_of dot_of cross_of sqrt_of add sub mul div lt le eq of_bits
one_short = refl

-- 2 comes before 3
number_first : simplify_call (inf false ∷ f0 ∷ []) f0 7 ≡ refuses (refuse 2 0)
unfolding simplify_refusal of_list every finite
number_first = refl
