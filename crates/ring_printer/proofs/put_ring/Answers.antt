-- `ring_printer::put_ring` meets its contract: the line of the ring, and those of its points. Assumes nothing.
use Rattle.std.proofs.Common.{arith}
use Rattle.print.proofs.Puts.{then}
use Rattle.ring_printer.proofs.put_ring.Goals as goal

pub returns : goal.returns
returns c = (then c.put_ring_line-next.ensures.0 c.put_points.ensures.put, omega (arith, c.put_ring_line-next.ensures.1, c.put_points.ensures.value))
