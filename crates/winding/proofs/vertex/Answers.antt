-- `winding::vertex` meets its contract: the two cases of the test. Assumes nothing.
use Rattle.winding.specs.Winding.{ordered_vertex}
use Rattle.winding.proofs.vertex.Goals as goal

pub returns-then-reverse : goal.returns-then-reverse
unfolding ordered_vertex
returns-then-reverse c = rw (c.if-reverse.true, c.point_at.ensures)

pub returns-else-reverse : goal.returns-else-reverse
unfolding ordered_vertex
returns-else-reverse c = rw (c.if-reverse.false, c.point_at-else-reverse.ensures)
