-- What the calls answer: the refusal of the ring, or the area. Definitions only.
use Rattle.std.specs.Prelude.{List, Float}
use Rattle.refusals.specs.Answers.{Outcome, outcome}
use Rattle.refusals.specs.Rows.{of_ring}
use Rattle.signed_area.specs.Area.{area2_of, robust_of}

abbrev pub area2_call : List Float → Outcome Float
area2_call r = outcome (of_ring r) (area2_of r)

abbrev pub robust_call : List Float → Outcome Float
robust_call r = outcome (of_ring r) (robust_of r)
