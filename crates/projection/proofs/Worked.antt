-- Worked examples, by computation: the point (7,4) against the segment from (0,0) to (4,0) has the parameter 1, with its foot at the end, and the
-- distance 5.
use mathlib.Core.Path.{◌≡◌, refl}
use lib.Ieee.{Float, binary64, inf, add, sub, mul, div, lt, eq, neg, of_bits}
use mathlib.Core.Bool.{false}
use Rattle.scalar.specs.Float.{float, f0, f1}
use Rattle.scalar.specs.Scalar.{clamp_of}
use Rattle.square_root.specs.Root.{sqrt_of}
use Rattle.plane.specs.Vector.{point, minus_of, dot_of, length_of, distance_of}
use Rattle.plane.specs.Segment.{clamped_foot, project_of, along_of, to_segment_of}
use Rattle.refusals.specs.Refusals.{refuse}
use Rattle.refusals.specs.Bounds.{coordinate}
use Rattle.refusals.specs.Rows.{of_points3, of_near}
use Rattle.refusals.specs.Answers.{answers, refuses}
use Rattle.projection.specs.Foot.{foot_at, foot_of}
use Rattle.projection.specs.Calls.{project_call, distance_call, near_call}

abbrev four : Float
four = float 0x4010_0000_0000_0000

abbrev seven : Float
seven = float 0x401c_0000_0000_0000

abbrev five : Float
five = float 0x4014_0000_0000_0000

abbrev half : Float
half = float 0x3fe0_0000_0000_0000

-- past the end, which is cut to the end
parameter : project_call (point seven four) (point f0 f0) (point four f0) ≡ answers (record { parameter = f1; foot = 1 })
unfolding of_points3 coordinate foot_of foot_at project_of clamped_foot clamp_of minus_of dot_of add sub mul div lt eq of_bits
parameter = refl

-- before the start
before : project_call (point (neg seven) four) (point f0 f0) (point four f0) ≡ answers (record { parameter = f0; foot = 0 })
unfolding of_points3 coordinate foot_of foot_at project_of clamped_foot clamp_of minus_of dot_of add sub mul div lt eq neg of_bits
before = refl

-- a parameter of -0.0 is the start
minus_zero_lem : project_call (point f0 f0) (point f0 f0) (point (neg four) (neg five)) ≡ answers (record { parameter = neg f0; foot = 0 })
unfolding of_points3 coordinate foot_of foot_at project_of clamped_foot clamp_of minus_of dot_of add sub mul div lt eq neg of_bits
minus_zero_lem = refl

-- above the middle
between : project_call (point four seven) (point f0 f0) (point (add binary64 four four) f0) ≡ answers (record { parameter = half; foot = 2 })
unfolding of_points3 coordinate foot_of foot_at project_of clamped_foot clamp_of minus_of dot_of add sub mul div lt eq of_bits
between = refl

-- an edge without a length has its foot at the start
no_length : project_call (point seven four) (point four four) (point four four) ≡ answers (record { parameter = f0; foot = 0 })
unfolding of_points3 coordinate foot_of foot_at project_of minus_of dot_of add sub mul lt eq of_bits
no_length = refl

distance : distance_call (point seven four) (point f0 f0) (point four f0) ≡ answers five
unfolding of_points3 coordinate to_segment_of along_of project_of clamped_foot clamp_of distance_of length_of minus_of dot_of sqrt_of add sub mul div lt of_bits
distance = refl

-- refusal 2 comes before 3
number_first : near_call (point (inf false) four) (point f0 f0) (point four f0) f0 ≡ refuses (refuse 2 0)
unfolding of_near coordinate
number_first = refl

tolerance_zero : near_call (point seven four) (point f0 f0) (point four f0) f0 ≡ refuses (refuse 3 0)
unfolding of_near coordinate lt of_bits
tolerance_zero = refl
