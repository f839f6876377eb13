-- `put_aside::on_grid` meets its contract: one coordinate after the other. Assumes nothing.
use borrow.Author.Tests.{le-leb, lt-leb}
use Rattle.put_aside.specs.Aside.{on_grid}
use Rattle.put_aside.proofs.on_grid.Goals as goal

pub returns-then-v-le2000000 : goal.returns-then-v-le2000000
unfolding on_grid
returns-then-v-le2000000 c = rw (le-leb _ _ c.if-v-le2000000.true)

pub returns-else-v-le2000000 : goal.returns-else-v-le2000000
unfolding on_grid
returns-else-v-le2000000 c = rw (lt-leb _ _ c.if-v-le2000000.false)
