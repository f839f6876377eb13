-- Worked examples, by computation: the contacts of docs/SCOPE.md's S and Q where Q starts. Assumes nothing.
use mathlib.Core.Path.{◌≡◌, refl}
use mathlib.Core.List.{List, [], ◌∷◌}
use lib.Ieee.{Float, add, sub, mul, div, lt, neg, of_bits}
use Rattle.scalar.specs.Float.{float, f0, f1, f2}
use Rattle.scalar.specs.Scalar.{abs_of, clamp_of}
use Rattle.square_root.specs.Root.{sqrt_of}
use Rattle.plane.specs.Vector.{minus_of, dot_of, cross_of, length_of, distance_of, parallel_of}
use Rattle.plane.specs.Segment.{clamped_foot, project_of, along_of, to_segment_of, near_segment_of}
use Rattle.ring.specs.Ring.{point_at}
use Rattle.pairs.specs.Pairs.{pair_of}
use Rattle.contacts.specs.Touching.{edge_end, edges_of, edges_touch, touches_by, touching, point_by, contact_point}
use Rattle.contacts.specs.Contacts.{picks, contacts_of, points_of}

abbrev pub four : Float
four = float 0x4010_0000_0000_0000

abbrev pub minus_two : Float
minus_two = neg f2

-- 1e-6
abbrev pub tol : Float
tol = float 0x3eb0_c6f7_a0b5_ed8d

abbrev pub S : List Float
S = f0 ∷ f0 ∷ four ∷ f0 ∷ four ∷ four ∷ f0 ∷ four ∷ []

-- Q moved by (0, -2)
abbrev pub Q : List Float
Q = f0 ∷ minus_two ∷ f2 ∷ minus_two ∷ f2 ∷ f0 ∷ f0 ∷ f0 ∷ []

-- the pairs' numbers
pub numbers : contacts_of S Q tol ≡ 8 ∷ 12 ∷ 15 ∷ 18 ∷ 19 ∷ 34 ∷ []
unfolding picks touching touches_by edges_of edge_end edges_touch pair_of point_at near_segment_of to_segment_of along_of project_of clamped_foot clamp_of parallel_of abs_of cross_of minus_of dot_of length_of distance_of sqrt_of add sub mul div lt neg of_bits
numbers = refl

-- at (2,0), (0,0), (0,0); (0,0), (0,0); (1,0)
pub points : points_of S Q (contacts_of S Q tol) ≡ f2 ∷ f0 ∷ f0 ∷ f0 ∷ f0 ∷ f0 ∷ f0 ∷ f0 ∷ f0 ∷ f0 ∷ f1 ∷ f0 ∷ []
unfolding points_of contact_point point_by edges_of edge_end pair_of point_at add div neg of_bits
points = rw numbers
