-- `vectors::fit::is_kept` meets its contract: the position, and then the test. Assumes nothing.
use Rattle.vectors.specs.Fit.{keeps}
use Rattle.vectors.proofs.fit.is_kept.Goals as goal

pub returns : goal.returns
unfolding keeps
returns c = rw (c.is_visited.ensures, c.potential.ensures)
