-- `clear_move::say::put_edge` meets its contract: three texts, one after the other. Assumes nothing.
use Rattle.print.proofs.Puts.{then}
use Rattle.clear_move.specs.Lines.{edge_line}
use Rattle.clear_move.proofs.say.put_edge.Goals as goal

pub returns : goal.returns
unfolding edge_line
returns c = then c.put_text-at.ensures (then c.put_decimal-end.ensures.0 c.put_text.ensures)
