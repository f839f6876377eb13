-- `chains::width` meets its contract. Assumes nothing.
use Rattle.chains.proofs.width.Goals as goal

pub returns : goal.returns
returns c = rw (c.abs-w.ensures, c.cross.ensures, c.minus.ensures)
