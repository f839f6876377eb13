-- `ring_distance::far::gap` meets its contract: the operations are those of the definition. Assumes nothing.
use Rattle.ring_distance.specs.Far.{gap_of}
use Rattle.ring_distance.proofs.far.gap.Goals as goal

pub returns : goal.returns
unfolding gap_of
returns c = rw (c.higher-g.ensures, c.higher.ensures)
