-- `ring_distance::far::is_off` meets its contract: `proofs/Off.antt` has the law. Assumes nothing.
use Rattle.ring_distance.proofs.Off.{none_nearer}
use Rattle.ring_distance.proofs.far.is_off.Goals as goal

pub returns : goal.returns
returns c = none_nearer _ _ _ c.gap-x.ensures c.gap-y.ensures
