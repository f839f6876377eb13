-- `start_position::keep` meets its contract: the four cases of the tests. Assumes nothing.
use Rattle.laws.specs.FirstBest.{better}
use Rattle.start_position.proofs.keep.Goals as goal

pub returns-then-is_higher : goal.returns-then-is_higher
unfolding better
returns-then-is_higher c = rw (c.if-top.true, ← c.is_higher.ensures, c.if-is_higher.true)

pub returns-else-is_higher : goal.returns-else-is_higher
unfolding better
returns-else-is_higher c = rw (c.if-top.true, ← c.is_higher.ensures, c.if-is_higher.false)

pub returns-then-is_lower : goal.returns-then-is_lower
unfolding better
returns-then-is_lower c = rw (c.if-top.false, ← c.is_lower.ensures, c.if-is_lower.true)

pub returns-else-is_lower : goal.returns-else-is_lower
unfolding better
returns-else-is_lower c = rw (c.if-top.false, ← c.is_lower.ensures, c.if-is_lower.false)
