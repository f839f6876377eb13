-- `refusals::rings::sum_of` meets its contract. The loop's invariant: sum is that of the counts passed, each below 2^32. Assumes nothing.
use native.Mathlib.Omega.{arith}
use Rattle.refusals.proofs.Counts.{total_on, total_end}
use Rattle.refusals.proofs.rings.sum_of.Goals as goal

pub loop-n-preserved : goal.loop-n-preserved
loop-n-preserved c =
    (omega (arith, c.type_inv.counts c.loop-n.n-index), omega (arith, total_on c.args.counts.now c.loop-n.n-index c.loop-n-test.true))

pub returns-clause-value : goal.returns-clause-value
returns-clause-value c = omega (arith, total_end c.args.counts.now c.loop-n.n-index c.loop-n-test.false)
