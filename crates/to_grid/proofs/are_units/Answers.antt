-- `to_grid::are_units` meets its contract. Assumes nothing.
use borrow.Author.Tests.{le-leb, lt-leb}
use Rattle.to_grid.proofs.are_units.Goals as goal

pub returns-then-units-ge1 : goal.returns-then-units-ge1
returns-then-units-ge1 c = rw (le-leb 1 _ c.if-units-ge1.true)

pub returns-else-units-ge1 : goal.returns-else-units-ge1
returns-else-units-ge1 c = rw (lt-leb 1 _ c.if-units-ge1.false)
