-- `refusals::lists::counts` meets its contract. The invariant: the counts left decide, from their own place on. Assumes nothing.
use mathlib.Core.Path.{◌∙◌}
use Rattle.refusals.proofs.Faults.{counts_on}
use Rattle.refusals.proofs.lists.counts.Goals as goal

pub loop-i-preserved : goal.loop-i-preserved
loop-i-preserved c = c.loop-i.invariant ∙ counts_on _ _ c.loop-i-test.true c.in_ok-count.ensures
