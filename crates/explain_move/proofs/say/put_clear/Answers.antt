-- `explain_move::say::put_clear` meets its contract: three texts, one after the other. Assumes nothing.
use Rattle.print.proofs.Puts.{then}
use Rattle.explain_move.specs.Lines.{clear_line}
use Rattle.explain_move.proofs.say.put_clear.Goals as goal

pub returns : goal.returns
unfolding clear_line
returns c = then c.put_text-a.ensures (then c.put_decimal-b.ensures.0 c.put_text.ensures)
