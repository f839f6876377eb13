-- `refusals::test::is_point` meets its contract: one coordinate after the other. Assumes nothing.
use Rattle.refusals.proofs.test.is_point.Goals as goal

pub returns-then-is_coordinate : goal.returns-then-is_coordinate
returns-then-is_coordinate c = rw (← c.is_coordinate.ensures, c.if-is_coordinate.true, c.is_coordinate-then-is_coordinate.ensures)

pub returns-else-is_coordinate : goal.returns-else-is_coordinate
returns-else-is_coordinate c = rw (← c.is_coordinate.ensures, c.if-is_coordinate.false)
