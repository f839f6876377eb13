-- `refusals::test::is_settings` meets its contract: one test after the other. Assumes nothing.
use Rattle.refusals.specs.Bounds.{settings_ok}
use Rattle.refusals.proofs.test.is_settings.Goals as goal

pub returns-then-is_smallest : goal.returns-then-is_smallest
unfolding settings_ok
returns-then-is_smallest c =
    rw (← c.is_tolerance.ensures, c.if-is_tolerance.true, ← c.is_smallest.ensures, c.if-is_smallest.true)

pub returns-else-is_smallest : goal.returns-else-is_smallest
unfolding settings_ok
returns-else-is_smallest c =
    rw (← c.is_tolerance.ensures, c.if-is_tolerance.true, ← c.is_smallest.ensures, c.if-is_smallest.false)

pub returns-else-is_tolerance : goal.returns-else-is_tolerance
unfolding settings_ok
returns-else-is_tolerance c = rw (← c.is_tolerance.ensures, c.if-is_tolerance.false)
