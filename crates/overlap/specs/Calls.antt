-- What the calls answer: the refusal of what is lent, or whether the polygons overlap. Definitions only.
use Rattle.std.specs.Prelude.{Bool, List, Float}
use Rattle.scalar.specs.Float.{f1e_6}
use Rattle.refusals.specs.Answers.{Outcome, outcome}
use Rattle.refusals.specs.Rows.{of_two_polygons, of_touching}
use Rattle.overlap.specs.Overlap.{overlap_of}

abbrev pub overlap_call : List Float → List Float → Outcome Bool
overlap_call a b = outcome (of_two_polygons a b) (overlap_of a b f1e_6)

abbrev pub overlap_with_call : List Float → List Float → Float → Outcome Bool
overlap_with_call a b tol = outcome (of_touching a b tol) (overlap_of a b tol)
