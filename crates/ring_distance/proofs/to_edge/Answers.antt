-- `ring_distance::to_edge` meets its contract: the operations are those of the definition. Assumes nothing.
use Rattle.ring_distance.proofs.to_edge.Goals as goal

pub squared-requires : goal.squared-requires
squared-requires c = c.dot.ensures

pub returns : goal.returns
returns c =
    rw (c.nearer.ensures, c.squared.ensures, c.minus.ensures, c.minus-d.ensures)
