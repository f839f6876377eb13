-- `start_position::is_lower` meets its contract: one comparison after the other. Assumes nothing.
use Rattle.start_position.specs.Start.{lower_of}
use Rattle.start_position.proofs.is_lower.Goals as goal

pub returns-then-new-best : goal.returns-then-new-best
unfolding lower_of
returns-then-new-best c = rw c.if-new-best.true

pub returns-then-best-new : goal.returns-then-best-new
unfolding lower_of
returns-then-best-new c = rw (c.if-new-best.false, c.if-best-new.true)

pub returns : goal.returns
unfolding lower_of
returns c = rw (c.if-new-best.false, c.if-best-new.false)
