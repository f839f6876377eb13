-- What the call answers: the refusal of what is lent, a position, or nothing. Definitions only.
use Rattle.std.specs.Prelude.{List, Option, Float}
use Rattle.plane.specs.declared.Point.{Point}
use Rattle.refusals.specs.Rows.{of_moving}
use Rattle.refusals.specs.Answers.{Outcome, outcome}
use Rattle.recovery.specs.Recovery.{recover_of}

abbrev pub recover_call : List Float → List Float → Point → Float → Outcome (Option Point)
recover_call s o current tol = outcome (of_moving s o current tol) (recover_of s o current tol)
