-- What the call answers: the refusal of what is lent, or what the move runs into. Definitions only.
use Rattle.std.specs.Prelude.{List, Float, Option}
use Rattle.plane.specs.declared.Point.{Point}
use Rattle.refusals.specs.Rows.{of_moving}
use Rattle.refusals.specs.Answers.{Outcome, outcome}
use Rattle.collision.specs.Check.{collision_of}
use Rattle.collision.specs.declared.Hit.{Hit}

abbrev pub collision_call : List Float → List Float → Point → Float → Outcome (Option Hit)
collision_call st orb move tol = outcome (of_moving st orb move tol) (collision_of st orb move tol)
