-- `simple_polygon::same_side` meets its contract: the tests in their order. Assumes nothing.
use Rattle.simple_polygon.proofs.same_side.Goals as goal

pub returns-then-d : goal.returns-then-d
returns-then-d c = rw c.if-d.true

pub returns-then-e : goal.returns-then-e
returns-then-e c = rw (c.if-d.false, c.if-d-2.true, c.if-e.true)

pub returns-else-e : goal.returns-else-e
returns-else-e c = rw (c.if-d.false, c.if-d-2.true, c.if-e.false)

pub returns-else-d-2 : goal.returns-else-d-2
returns-else-d-2 c = rw (c.if-d.false, c.if-d-2.false)
