-- `reason_search::side` meets its contract: case by case. Assumes nothing.
use native.Mathlib.Omega.{arith}
use mathlib.Core.Path.{◌∙◌}
use Rattle.reason_search.specs.Lines.{box_line}
use Rattle.reason_search.proofs.Boxes.{side_last}
use Rattle.reason_search.proofs.side.Goals as goal

pub returns-in-0 : goal.returns-in-0
unfolding box_line
returns-in-0 c = rw c.in-0.is c.line_of.ensures

pub returns-in-1 : goal.returns-in-1
unfolding box_line
returns-in-1 c = rw c.in-1.is c.line_of-in-1.ensures

pub returns-in-2 : goal.returns-in-2
unfolding box_line
returns-in-2 c = rw c.in-2.is c.line_of-in-2.ensures

pub returns-in_default : goal.returns-in_default
returns-in_default c =
    let r = c.in_default.in_default-own.rest in
    c.line_of-in_default.ensures ∙ side_last _ _ _ (omega (arith, r.0.0.1, r.0.1, r.1))
