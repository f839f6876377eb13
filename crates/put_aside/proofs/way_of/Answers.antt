-- `put_aside::way_of` meets its contract: one comparison. Assumes nothing.
use borrow.Author.Tests.{le-leb, lt-leb}
use Rattle.put_aside.specs.Aside.{way_of}
use Rattle.put_aside.proofs.way_of.Goals as goal

pub returns-then-how-le10 : goal.returns-then-how-le10
unfolding way_of
returns-then-how-le10 c = rw (le-leb _ _ c.if-how-le10.true)

pub returns-else-how-le10 : goal.returns-else-how-le10
unfolding way_of
returns-else-how-le10 c = rw (lt-leb _ _ c.if-how-le10.false)
