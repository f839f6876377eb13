-- `segments::orientation` meets its contract: the sign of the turn. Assumes nothing.
use Rattle.segments.specs.Segments.{orientation_of}
use Rattle.segments.proofs.orientation.Goals as goal

pub returns : goal.returns
unfolding orientation_of
returns c = rw (c.sign.ensures, c.turn.ensures)
