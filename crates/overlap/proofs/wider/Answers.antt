-- `overlap::wider` meets its contract: the smaller and the larger. Assumes nothing.
use Rattle.overlap.specs.Extent.{wider_of}
use Rattle.overlap.proofs.wider.Goals as goal

pub returns : goal.returns
unfolding wider_of
returns c = rw (c.larger.ensures, c.smaller.ensures)
