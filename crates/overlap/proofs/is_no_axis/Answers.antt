-- `overlap::is_no_axis` meets its contract: one coordinate after the other. Assumes nothing.
use Rattle.overlap.specs.Overlap.{no_axis}
use Rattle.overlap.proofs.is_no_axis.Goals as goal

pub returns-then-abs : goal.returns-then-abs
unfolding no_axis
returns-then-abs c = rw (← c.abs.ensures, c.if-abs.true, c.abs-then-abs.ensures)

pub returns-else-abs : goal.returns-else-abs
unfolding no_axis
returns-else-abs c = rw (← c.abs.ensures, c.if-abs.false)
