-- `reason_check::differ` meets its contract: one coordinate after the other. Assumes nothing.
use Rattle.std.proofs.Common.{rules, tests}
use Rattle.reasons.specs.Parting.{differ}
use Rattle.reason_check.proofs.differ.Goals as goal

pub returns : goal.returns
unfolding differ
returns c = search (tests, rules)
