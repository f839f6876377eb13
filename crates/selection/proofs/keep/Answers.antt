-- `selection::keep` meets its contract: the two cases of the test. Assumes nothing.
use Rattle.laws.specs.FirstBest.{better}
use Rattle.selection.proofs.keep.Goals as goal

pub returns-then-new-best : goal.returns-then-new-best
unfolding better
returns-then-new-best c = rw c.if-new-best.true

pub returns-else-new-best : goal.returns-else-new-best
unfolding better
returns-else-new-best c = rw c.if-new-best.false
