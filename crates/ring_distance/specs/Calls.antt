-- What the calls answer: the refusal of what is lent, or the distance. Definitions only.
use Rattle.std.specs.Prelude.{List, Float}
use Rattle.plane.specs.Segment.{segment_distance_of}
use Rattle.plane.specs.declared.Point.{Point}
use Rattle.refusals.specs.Answers.{Outcome, outcome}
use Rattle.refusals.specs.Rows.{of_points3, of_two_rings}
use Rattle.ring_distance.specs.Distance.{ring_distance_of}

abbrev pub segment_distance_call : Point → Point → Point → Outcome Float
segment_distance_call p a b = outcome (of_points3 p a b) (segment_distance_of p a b)

abbrev pub ring_distance_call : List Float → List Float → Outcome Float
ring_distance_call a b = outcome (of_two_rings a b) (ring_distance_of a b)
