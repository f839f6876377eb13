-- `vectors::fit::potential` meets its contract: so far ahead. Assumes nothing.
use Rattle.vectors.specs.Fit.{potential_of}
use Rattle.vectors.proofs.fit.potential.Goals as goal

pub returns : goal.returns
unfolding potential_of
returns c = rw (c.ahead.ensures, c.smaller.ensures)
