-- `start_position::find_start_position` meets its contract: the two vertices, and then their difference. Assumes nothing.
use Rattle.start_position.specs.Start.{start_of}
use Rattle.start_position.proofs.find_start_position.Goals as goal

pub returns : goal.returns
unfolding start_of
returns c = rw (c.minus.ensures, c.vertex-2.ensures, c.vertex.ensures)
