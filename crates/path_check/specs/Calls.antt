-- What the call answers: the refusal of what is lent, or the first fault. Definitions only.
use Rattle.std.specs.Prelude.{List, Float, Option}
use Rattle.refusals.specs.Answers.{Outcome, outcome}
use Rattle.refusals.specs.declared.Settings.{Settings}
use Rattle.path_check.specs.Rows.{of_path}
use Rattle.path_check.specs.Path.{path_fault}
use Rattle.path_check.specs.declared.Fault.{Fault}

-- the contact tolerance is that of the contacts and of the collision check
abbrev pub path_call : List Float → List Float → Settings → List Float → Outcome (Option Fault)
path_call st orb s path = outcome (of_path st orb s path) (path_fault st orb s.contact_tolerance path)
