-- `discs::calls::is_radius` meets its contract: one test after the other. Assumes nothing.
use Rattle.discs.proofs.calls.is_radius.Goals as goal

pub returns-then-is_finite : goal.returns-then-is_finite
returns-then-is_finite c = rw (← c.is_finite.ensures, c.if-is_finite.true)

pub returns-else-is_finite : goal.returns-else-is_finite
returns-else-is_finite c = rw (← c.is_finite.ensures, c.if-is_finite.false)
