-- `simple_polygon::clear_pair` meets its contract: what is told, then the test. Assumes nothing.
use Rattle.simple_polygon.proofs.clear_pair.Goals as goal

pub clear-requires : goal.clear-requires
clear-requires c = c.requires

pub returns : goal.returns
returns c = rw (c.if-shared.false, c.clear.ensures)
