-- `discs::vertex` meets its contract: both coordinates from the entry. Assumes nothing.
use Rattle.discs.proofs.Drawn.{vertex_is}
use Rattle.discs.proofs.vertex.Goals as goal

pub returns : goal.returns
returns c =
    vertex_is _ _ _ _ c.requires.1 c.entry_at-e.ensures c.reach.ensures c.reach-2.ensures
