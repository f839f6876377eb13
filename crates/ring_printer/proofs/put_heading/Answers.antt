-- `ring_printer::put_heading` meets its contract: three texts, one after the other. Assumes nothing.
use Rattle.std.proofs.Common.{arith}
use Rattle.print.proofs.Puts.{then}
use Rattle.ring_printer.specs.Said.{rings_line}
use Rattle.ring_printer.proofs.put_heading.Goals as goal

pub returns : goal.returns
unfolding rings_line
returns c = (
  then c.put_text-at.ensures (then c.put_decimal-end.ensures.0 c.put_text.ensures),
  omega (arith, c.put_text-at.ensures.ends, c.put_decimal-end.ensures.1, c.put_text.ensures.ends),
)
