-- `refusals::test::is_finite_point` meets its contract: one number after the other. Assumes nothing.
use Rattle.refusals.proofs.test.is_finite_point.Goals as goal

pub returns-then-is_finite : goal.returns-then-is_finite
returns-then-is_finite c = rw (← c.is_finite.ensures, c.if-is_finite.true, c.is_finite-then-is_finite.ensures)

pub returns-else-is_finite : goal.returns-else-is_finite
returns-else-is_finite c = rw (← c.is_finite.ensures, c.if-is_finite.false)
