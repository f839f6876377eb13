-- `ring_printer::put_all` meets its contract: the heading, and the rings. Assumes nothing.
use Rattle.print.proofs.Puts.{then}
use Rattle.ring_printer.proofs.put_all.Goals as goal

pub returns : goal.returns
returns c = then c.put_heading-from.ensures.0 c.put_rings.ensures
