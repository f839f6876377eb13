-- `refusals::test::is_finite` meets its contract: the two comparisons leave out the infinities and NaN. Assumes nothing.
use Rattle.refusals.proofs.Finite.{finite_lt}
use Rattle.refusals.proofs.test.is_finite.Goals as goal

pub returns-then-x : goal.returns-then-x
returns-then-x c = rw c.if-x.true at (finite_lt c.args.x)

pub returns-else-x : goal.returns-else-x
returns-else-x c = rw c.if-x.false at (finite_lt c.args.x)
