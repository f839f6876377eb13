-- `clear_move::say::put_judged` meets its contract: what is found, or the refusal. Assumes nothing.
use Rattle.std.proofs.Common.{sym, ap}
use Rattle.print.proofs.Puts.{reads}
use Rattle.clear_calls.specs.Calls.{judged}
use Rattle.std.specs.Prelude.{Result}
use Rattle.reason_check.specs.declared.Ground.{Ground}
use Rattle.refusals.specs.declared.Refusal.{Refusal}
use Rattle.clear_move.specs.Lines.{judged_text}
use Rattle.clear_move.proofs.say.put_judged.Goals as goal

pub returns-in-Ok : goal.returns-in-Ok
unfolding judged_text
returns-in-Ok c = reads (ap (λ (j : Result Ground Refusal). judged_text (judged j) c.args.ls.now c.args.m) (sym c.in-Ok.is)) c.put_ground.ensures

pub returns-in-Err : goal.returns-in-Err
unfolding judged_text
returns-in-Err c = reads (ap (λ (j : Result Ground Refusal). judged_text (judged j) c.args.ls.now c.args.m) (sym c.in-Err.is)) c.put_refusal.ensures
