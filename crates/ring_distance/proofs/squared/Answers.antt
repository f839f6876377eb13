-- `ring_distance::squared` meets its contract: the operations are those of the definition. Assumes nothing.
use Rattle.ring_distance.specs.Squared.{squared_from}
use Rattle.ring_distance.proofs.squared.Goals as goal

pub foot-t-requires : goal.foot-t-requires
foot-t-requires c = c.requires

pub returns : goal.returns
unfolding squared_from
returns c = rw (c.dot.ensures, c.foot-t.ensures)
