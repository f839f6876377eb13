-- `whole_engine::on_segment` meets its contract: one coordinate after the other. Assumes nothing.
use Rattle.whole_rules.specs.Segments.{whole_on_segment}
use Rattle.whole_engine.proofs.on_segment.Goals as goal

pub returns-then-between : goal.returns-then-between
unfolding whole_on_segment
returns-then-between c = rw (← c.between.ensures, c.if-between.true, c.between-then-between.ensures)

pub returns-else-between : goal.returns-else-between
unfolding whole_on_segment
returns-else-between c = rw (← c.between.ensures, c.if-between.false)
