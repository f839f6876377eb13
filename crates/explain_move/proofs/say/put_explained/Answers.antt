-- `explain_move::say::put_explained` meets its contract. Assumes nothing.
use Rattle.std.proofs.Common.{sym, ap, ◌∙◌}
use Rattle.lines.specs.Lines.{number_line}
use Rattle.print.proofs.Puts.{reads}
use Rattle.grounds.specs.Calls.{explained}
use Rattle.std.specs.Prelude.{Result}
use Rattle.grounds.specs.declared.Explanation.{Explanation}
use Rattle.refusals.specs.declared.Refusal.{Refusal}
use Rattle.explain_move.specs.Lines.{outcome_line}
use Rattle.explain_move.proofs.say.put_explained.Goals as goal

pub returns-in-Ok : goal.returns-in-Ok
returns-in-Ok c = reads (ap (λ (a : Result Explanation Refusal). outcome_line (explained a)) (sym c.in-Ok.is)) c.put_explanation.ensures

pub returns-in-Err : goal.returns-in-Err
returns-in-Err c =
    reads (ap number_line c.number.ensures ∙ ap (λ (a : Result Explanation Refusal). outcome_line (explained a)) (sym c.in-Err.is)) c.put_number.ensures
