-- `refusals::test::is_work_room` meets its contract: one test after the other. Assumes nothing.
use borrow.Author.Tests.{le-leb, lt-leb}
use Rattle.refusals.proofs.test.is_work_room.Goals as goal

pub returns-then-size-lt2 : goal.returns-then-size-lt2
returns-then-size-lt2 c = rw (lt-leb _ _ c.if-size-lt2.true)

pub returns-else-size-lt2 : goal.returns-else-size-lt2
returns-else-size-lt2 c = rw (le-leb _ _ c.if-size-lt2.false)
