-- `collision::counts_below` meets its contract: one comparison after the other. Assumes nothing.
use Rattle.collision.proofs.counts_below.Goals as goal

pub returns-then-d-near : goal.returns-then-d-near
returns-then-d-near c = rw (c.if-d-sweep.true, c.if-d-near.true)

pub returns-else-d-near : goal.returns-else-d-near
returns-else-d-near c = rw (c.if-d-sweep.true, c.if-d-near.false)

pub returns-else-d-sweep : goal.returns-else-d-sweep
returns-else-d-sweep c = rw c.if-d-sweep.false
