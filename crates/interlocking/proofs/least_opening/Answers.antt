-- `interlocking::least_opening` meets its contract: the box, then the smaller side. Assumes nothing.
use Rattle.interlocking.specs.Interlocking.{least_of}
use Rattle.interlocking.proofs.least_opening.Goals as goal

pub returns : goal.returns
unfolding least_of
returns c =
    rw (c.smaller.ensures, c.compute_bbox-b.ensures)
