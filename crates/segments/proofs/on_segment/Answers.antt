-- `segments::on_segment` meets its contract: one coordinate after the other. Assumes nothing.
use Rattle.segments.specs.Segments.{on_segment_of}
use Rattle.segments.proofs.on_segment.Goals as goal

pub returns-then-between : goal.returns-then-between
unfolding on_segment_of
returns-then-between c = rw (← c.between.ensures, c.if-between.true, c.between-then-between.ensures)

pub returns-else-between : goal.returns-else-between
unfolding on_segment_of
returns-else-between c = rw (← c.between.ensures, c.if-between.false)
