-- `overlap::axis_of` meets its contract: the edge, then its normal. Assumes nothing.
use Rattle.overlap.specs.Overlap.{axis_of}
use Rattle.overlap.proofs.axis_of.Goals as goal

pub returns : goal.returns
unfolding axis_of
returns c = rw (c.normalize.ensures, c.edge_vector-edge.ensures)
