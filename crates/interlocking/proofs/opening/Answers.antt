-- `interlocking::opening` meets its contract: the two edges, then the root. Assumes nothing.
use Rattle.interlocking.specs.Interlocking.{opening_of}
use Rattle.interlocking.proofs.opening.Goals as goal

pub returns : goal.returns
unfolding opening_of
returns c =
    rw (c.sqrt.ensures.is, c.abs.ensures, c.dot.ensures, c.edge_vector-after.ensures, c.edge_vector-before.ensures, c.previous.ensures.0)
