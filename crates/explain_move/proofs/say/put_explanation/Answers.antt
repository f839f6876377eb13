-- `explain_move::say::put_explanation` meets its contract. Assumes nothing.
use Rattle.print.proofs.Puts.{reads}
use Rattle.explain_move.proofs.Answers.{clear_said, hit_said}
use Rattle.explain_move.proofs.say.put_explanation.Goals as goal

pub returns-in-None : goal.returns-in-None
returns-in-None c = reads (clear_said c.args.x c.in-None.is c.number.ensures) c.put_clear.ensures

pub returns-in-Some : goal.returns-in-Some
returns-in-Some c = reads (hit_said c.args.x c.in-Some.is) c.put_hit.ensures
