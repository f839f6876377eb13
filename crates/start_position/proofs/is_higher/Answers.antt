-- `start_position::is_higher` meets its contract: one comparison after the other. Assumes nothing.
use Rattle.start_position.specs.Start.{upper_of}
use Rattle.start_position.proofs.is_higher.Goals as goal

pub returns-then-new-best : goal.returns-then-new-best
unfolding upper_of
returns-then-new-best c = rw c.if-new-best.true

pub returns-then-best-new : goal.returns-then-best-new
unfolding upper_of
returns-then-best-new c = rw (c.if-new-best.false, c.if-best-new.true)

pub returns : goal.returns
unfolding upper_of
returns c = rw (c.if-new-best.false, c.if-best-new.false)
