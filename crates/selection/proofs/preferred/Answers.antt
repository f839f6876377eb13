-- `selection::preferred` meets its contract: the unit vector, turned. Assumes nothing.
use Rattle.selection.specs.Score.{preferred_of}
use Rattle.selection.proofs.preferred.Goals as goal

pub returns : goal.returns
unfolding preferred_of
returns c = rw (c.normalize-radial.ensures, c.minus.ensures)
