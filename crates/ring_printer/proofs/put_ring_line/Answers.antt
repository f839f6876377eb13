-- `ring_printer::put_ring_line` meets its contract: seven texts, one after the other. Assumes nothing.
use Rattle.std.proofs.Common.{arith}
use Rattle.print.proofs.Puts.{then}
use Rattle.ring_printer.specs.Said.{ring_line}
use Rattle.ring_printer.proofs.put_ring_line.Goals as goal

pub returns : goal.returns
unfolding ring_line
returns c = (
  then c.put_text-a.ensures
      (then c.put_decimal-b.ensures.0 (then c.put_text-c.ensures (then c.put_decimal-d.ensures.0 (then c.put_text-e.ensures (then c.put_decimal-f.ensures.0 c.put_text.ensures))))),
  omega (arith, c.put_text-a.ensures.ends, c.put_decimal-b.ensures.1, c.put_text-c.ensures.ends, c.put_decimal-d.ensures.1, c.put_text-e.ensures.ends, c.put_decimal-f.ensures.1, c.put_text.ensures.ends),
)
