-- `chains::aside` meets its contract. Assumes nothing.
use Rattle.chains.proofs.aside.Goals as goal

pub returns : goal.returns
returns c = rw (c.cross.ensures, c.minus.ensures)
