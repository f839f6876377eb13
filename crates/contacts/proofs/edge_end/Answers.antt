-- `contacts::edge_end` meets its contract: the vertex after the first one. Assumes nothing.
use Rattle.contacts.specs.Touching.{edge_end}
use Rattle.contacts.proofs.edge_end.Goals as goal

pub returns : goal.returns
unfolding edge_end
returns c = rw (c.point_at.ensures, c.next.ensures.0)
