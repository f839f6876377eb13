-- `refusals::test::is_tolerance` meets its contract: one comparison after the other. Assumes nothing.
use Rattle.refusals.proofs.test.is_tolerance.Goals as goal

pub returns-then-x : goal.returns-then-x
returns-then-x c = rw c.if-x.true

pub returns-else-x : goal.returns-else-x
returns-else-x c = rw c.if-x.false
