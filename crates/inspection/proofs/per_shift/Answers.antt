-- `inspection::per_shift` meets its contract: the smaller of the two. Assumes nothing.
use borrow.Author.Tests.{le-leb, lt-leb}
use Rattle.inspection.specs.Places.{per_shift}
use Rattle.inspection.proofs.per_shift.Goals as goal

pub returns-then-k-n : goal.returns-then-k-n
unfolding per_shift
returns-then-k-n c = rw (le-leb _ _ c.if-k-n.true)

pub returns-else-k-n : goal.returns-else-k-n
unfolding per_shift
returns-else-k-n c = rw (lt-leb _ _ c.if-k-n.false)
