-- `clear_drawn_path::leg_count` meets its contract. Assumes nothing.
use Rattle.clear_drawn_path.proofs.leg_count.Goals as goal

pub returns-then-closed : goal.returns-then-closed
returns-then-closed c = rw c.if-closed.true

pub returns-else-closed : goal.returns-else-closed
returns-else-closed c = rw c.if-closed.false
