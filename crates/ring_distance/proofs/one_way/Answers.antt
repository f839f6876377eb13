-- `ring_distance::one_way` meets its contract: whichever way is taken, the answer is one. Assumes nothing.
use Rattle.ring_distance.proofs.one_way.Goals as goal

pub chained_way-requires : goal.chained_way-requires
chained_way-requires c = c.is_chained.ensures c.if-is_chained.true
