-- `grounds::in_between` meets its contract: one comparison after the other. Assumes nothing.
use Rattle.grounds.proofs.in_between.Goals as goal

pub returns-then-distance-sweep : goal.returns-then-distance-sweep
returns-then-distance-sweep c = rw c.if-distance-sweep.true

pub returns-else-distance-sweep : goal.returns-else-distance-sweep
returns-else-distance-sweep c = rw c.if-distance-sweep.false
