-- `collision::least` meets its contract: by what was found. Assumes nothing.
use lib.Ieee.{div, of_bits}
use Rattle.collision.specs.Row.{least_of}
use Rattle.collision.proofs.least.Goals as goal

pub returns-in-None : goal.returns-in-None
unfolding least_of div of_bits
returns-in-None c = rw c.in-None.is
