-- `segments::crosses` meets its contract: one segment after the other. Assumes nothing.
use Rattle.segments.specs.Segments.{crosses_of}
use Rattle.segments.proofs.crosses.Goals as goal

pub returns-then-straddles : goal.returns-then-straddles
unfolding crosses_of
returns-then-straddles c = rw (← c.straddles.ensures, c.if-straddles.true, c.straddles-then-straddles.ensures)

pub returns-else-straddles : goal.returns-else-straddles
unfolding crosses_of
returns-else-straddles c = rw (← c.straddles.ensures, c.if-straddles.false)
