-- `frames::with_edge` meets its contract: `proofs/Widened.antt` has the law. Assumes nothing.
use Rattle.frames.proofs.Widened.{with_edge}
use Rattle.frames.proofs.with_edge.Goals as goal

pub returns : goal.returns
returns c = with_edge _ _ _ _ _ c.with_point.ensures c.minus.ensures c.plus.ensures c.with_point-2.ensures
