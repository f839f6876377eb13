-- `discs::calls::is_quarter` meets its contract: the numbers one after the other. Assumes nothing.
use Rattle.std.proofs.Common.{tests, rules}
use Rattle.discs.specs.Disc.{quarter_ok}
use Rattle.discs.proofs.calls.is_quarter.Goals as goal

pub returns-in_default : goal.returns-in_default
unfolding quarter_ok
returns-in_default c = search (tests, rules)

pub returns-in_default-2 : goal.returns-in_default-2
unfolding quarter_ok
returns-in_default-2 c = search (tests, rules)

pub returns-in-1 : goal.returns-in-1
unfolding quarter_ok
returns-in-1 c = search (tests, rules)

pub returns-in-1-2 : goal.returns-in-1-2
unfolding quarter_ok
returns-in-1-2 c = search (tests, rules)
