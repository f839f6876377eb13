-- What the call answers: the refusal of the ring, or whether it is simple. Definitions only.
use Rattle.std.specs.Prelude.{Bool, List, Float}
use Rattle.refusals.specs.Answers.{Outcome, outcome}
use Rattle.refusals.specs.Rows.{of_ring}
use Rattle.simple_polygon.specs.Simple.{is_simple}

abbrev pub is_simple_call : List Float → Outcome Bool
is_simple_call r = outcome (of_ring r) (is_simple r)
