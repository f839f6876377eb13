-- `clear_move::shared::put_part` meets its contract: something where the edge has the line, and else nothing. Assumes nothing.
use Rattle.print.proofs.Puts.{empty, reads}
use Rattle.clear_move.proofs.Runs.{part_of, no_part}
use Rattle.clear_move.proofs.shared.put_part.Goals as goal

pub returns-then-has-clause-put : goal.returns-then-has-clause-put
returns-then-has-clause-put c = reads (part_of _ _ _ _ c.has.ensures c.if-has.true) c.put_edge_of.ensures.0

pub returns-clause-put : goal.returns-clause-put
returns-clause-put c = reads (no_part _ _ _ _ c.has.ensures c.if-has.false) (empty _ _)
