-- `clear_move::say::put_first` meets its contract: the line where the edge is the first with it, and else nothing. Assumes nothing.
use Rattle.print.proofs.Puts.{empty, reads}
use Rattle.clear_move.proofs.Reasons.{first_own, first_none}
use Rattle.clear_move.proofs.say.put_first.Goals as goal

pub returns-then-has-clause-put : goal.returns-then-has-clause-put
returns-then-has-clause-put c = reads (first_own _ _ _ _ c.has.ensures c.if-has.true) c.put_shared.ensures.put

pub returns-clause-put : goal.returns-clause-put
returns-clause-put c = reads (first_none _ _ _ _ c.has.ensures c.if-has.false) (empty _ _)
