-- `reason_check::left_on` meets its contract: the two sums are compared. Assumes nothing.
use Rattle.reasons.specs.Parting.{left_on}
use Rattle.reason_check.proofs.left_on.Goals as goal

pub returns : goal.returns
unfolding left_on
returns c = rw (c.left_sum.ensures, c.left_sum-2.ensures)
