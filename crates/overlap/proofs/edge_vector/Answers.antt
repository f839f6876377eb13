-- `overlap::edge_vector` meets its contract: the two ends, and their difference. Assumes nothing.
use Rattle.overlap.specs.Overlap.{edge_of}
use Rattle.overlap.proofs.edge_vector.Goals as goal

pub returns : goal.returns
unfolding edge_of
returns c =
    rw (c.minus.ensures, c.point_at-q.ensures, c.next.ensures.0, c.point_at-p.ensures)
