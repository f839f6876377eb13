-- `collision::both` meets its contract: one scan after the other. Assumes nothing.
use Rattle.collision.specs.Check.{both_of}
use Rattle.collision.proofs.both.Goals as goal

pub returns : goal.returns
unfolding both_of
returns c = rw (c.scan.ensures, c.scan-best.ensures, c.back-against.ensures)
