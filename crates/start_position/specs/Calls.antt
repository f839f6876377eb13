-- What the call answers: the refusal of what is lent, or the position. Definitions only.
use Rattle.std.specs.Prelude.{List, Float}
use Rattle.plane.specs.declared.Point.{Point}
use Rattle.refusals.specs.Rows.{of_two_polygons}
use Rattle.refusals.specs.Answers.{Outcome, outcome}
use Rattle.start_position.specs.Start.{start_of}

abbrev pub start_call : List Float → List Float → Outcome Point
start_call st orb = outcome (of_two_polygons st orb) (start_of st orb)
