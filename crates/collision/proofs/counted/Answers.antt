-- `collision::counted` meets its contract: a miss, and then one comparison after the other. Assumes nothing.
use Rattle.collision.specs.Hit.{counted_of}
use Rattle.collision.proofs.counted.Goals as goal

pub returns-in_default : goal.returns-in_default
unfolding counted_of
returns-in_default c = rw c.in_default.is

pub returns-then-distance-sweep-2 : goal.returns-then-distance-sweep-2
unfolding counted_of
returns-then-distance-sweep-2 c = rw (c.in-Some.is, c.if-distance-sweep.true, c.if-distance-sweep-2.true)

pub returns-else-distance-sweep-2 : goal.returns-else-distance-sweep-2
unfolding counted_of
returns-else-distance-sweep-2 c = rw (c.in-Some.is, c.if-distance-sweep.true, c.if-distance-sweep-2.false)

pub returns-else-distance-sweep : goal.returns-else-distance-sweep
unfolding counted_of
returns-else-distance-sweep c = rw (c.in-Some.is, c.if-distance-sweep.false)
