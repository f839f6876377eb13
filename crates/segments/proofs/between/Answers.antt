-- `segments::between` meets its contract: one comparison after the other. Assumes nothing.
use Rattle.segments.specs.Segments.{between_of}
use Rattle.segments.proofs.between.Goals as goal

pub returns-then-p-smaller : goal.returns-then-p-smaller
unfolding between_of
returns-then-p-smaller c = rw (← c.smaller.ensures, c.if-p-smaller.true, c.larger.ensures)

pub returns-else-p-smaller : goal.returns-else-p-smaller
unfolding between_of
returns-else-p-smaller c = rw (← c.smaller.ensures, c.if-p-smaller.false)
