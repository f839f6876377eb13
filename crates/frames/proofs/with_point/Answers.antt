-- `frames::with_point` meets its contract: `proofs/Widened.antt` has the laws. Assumes nothing.
use Rattle.frames.proofs.Widened.{with_point}
use Rattle.frames.proofs.with_point.Goals as goal

pub returns : goal.returns
returns c = with_point _ _ c.lower.ensures c.higher.ensures c.lower-2.ensures c.higher-2.ensures
