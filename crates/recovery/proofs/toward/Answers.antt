-- `recovery::toward` meets its contract: the direction, then the move. Assumes nothing.
use Rattle.recovery.specs.Recovery.{toward_of}
use Rattle.recovery.proofs.toward.Goals as goal

pub returns : goal.returns
unfolding toward_of
returns c =
    rw (c.ahead.ensures, c.normalize.ensures, c.minus.ensures, c.centroid.ensures)
