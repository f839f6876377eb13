-- `chains::bounds` meets its contract: `proofs/Edges.antt` has the law. Assumes nothing.
use Rattle.chains.proofs.Edges.{framed}
use Rattle.chains.proofs.bounds.Goals as goal

pub returns : goal.returns
returns c = framed _ _ _ c.by_sign.ensures c.by_sign-2.ensures c.by_sign-3.ensures c.by_sign-4.ensures
