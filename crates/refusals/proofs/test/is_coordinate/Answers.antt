-- `refusals::test::is_coordinate` meets its contract: the two comparisons say that the magnitude is at most a million. Assumes nothing.
use Rattle.refusals.proofs.Coordinate.{coordinate_le}
use Rattle.refusals.proofs.test.is_coordinate.Goals as goal

pub returns-then-x : goal.returns-then-x
returns-then-x c = rw c.if-x.true at (coordinate_le c.args.x)

pub returns-else-x : goal.returns-else-x
returns-else-x c = rw c.if-x.false at (coordinate_le c.args.x)
