-- `clear_move::shared::put_start` meets its contract: the number, after a comma where it is not the first. Assumes nothing.
use Rattle.std.proofs.Common.{arith}
use Rattle.print.proofs.Puts.{then, reads}
use Rattle.clear_move.proofs.Runs.{start_own, start_later}
use Rattle.clear_move.proofs.shared.put_start.Goals as goal

pub returns-then-k-j : goal.returns-then-k-j
returns-then-k-j c = (reads (start_own _ _ c.if-k-j.true) c.put_decimal.ensures.0, omega (arith, c.put_decimal.ensures.1))

pub returns : goal.returns
returns c = (
  reads (start_later _ _ c.if-k-j.false) (then c.put_text-next.ensures c.put_decimal-2.ensures.0),
  omega (arith, c.put_text-next.ensures.ends, c.put_decimal-2.ensures.1),
)
