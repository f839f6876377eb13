-- `ring_distance::nearer` meets its contract: the two cases of the test. Assumes nothing.
use Rattle.ring_distance.proofs.nearer.Goals as goal

pub returns-then-s-least : goal.returns-then-s-least
returns-then-s-least c = rw c.if-s-least.true

pub returns-else-s-least : goal.returns-else-s-least
returns-else-s-least c = rw c.if-s-least.false
