-- What the call answers: the refusal of what is lent, a position, or nothing. Definitions only.
use Rattle.std.specs.Prelude.{List, Option, Float}
use Rattle.plane.specs.declared.Point.{Point}
use Rattle.refusals.specs.Rows.{of_moving}
use Rattle.refusals.specs.Answers.{Outcome, outcome}
use Rattle.interlocking.specs.Interlocking.{interlock_of}

abbrev pub interlock_call : List Float → List Float → Point → Float → Outcome (Option Point)
interlock_call s o current tol = outcome (of_moving s o current tol) (interlock_of s o current tol)
