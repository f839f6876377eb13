-- `simple_polygon::is_aside` meets its contract: the two tests. Assumes nothing.
use Rattle.simple_polygon.proofs.is_aside.Goals as goal

pub returns-then-d : goal.returns-then-d
returns-then-d c = rw c.if-d.true

pub returns-else-d : goal.returns-else-d
returns-else-d c = rw c.if-d.false
