-- What the calls answer: the refusal of a coordinate out of bounds, or the predicate. Definitions only.
use Rattle.std.specs.Prelude.{Bool, ℤ}
use Rattle.plane.specs.declared.Point.{Point}
use Rattle.refusals.specs.Answers.{Outcome, outcome}
use Rattle.refusals.specs.Rows.{of_points3, of_points4}
use Rattle.segments.specs.Segments.{orientation_of, on_segment_of, intersect_of}

abbrev pub orientation_call : Point → Point → Point → Outcome ℤ
orientation_call a b c = outcome (of_points3 a b c) (orientation_of a b c)

abbrev pub on_segment_call : Point → Point → Point → Outcome Bool
on_segment_call a b p = outcome (of_points3 a b p) (on_segment_of a b p)

abbrev pub intersect_call : Point → Point → Point → Point → Outcome Bool
intersect_call p1 p2 p3 p4 = outcome (of_points4 p1 p2 p3 p4) (intersect_of p1 p2 p3 p4)
