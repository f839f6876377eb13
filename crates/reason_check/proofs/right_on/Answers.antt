-- `reason_check::right_on` meets its contract: right of the line is left of the line turned round. Assumes nothing.
use Rattle.reasons.specs.Parting.{left_on, right_on}
use Rattle.reason_check.proofs.right_on.Goals as goal

pub returns : goal.returns
unfolding left_on right_on
returns c = c.left_on.ensures
