-- `byrlygent::sliding::previous` meets its contract: the two cases. Assumes nothing.
use borrow.Author.Tests.{eq-eqb, ne_eqb}
use Rattle.byrlygent.proofs.sliding.previous.Goals as goal

pub returns-then-has-eq0 : goal.returns-then-has-eq0
returns-then-has-eq0 c = rw (eq-eqb _ _ c.if-has-eq0.true)

pub returns-else-has-eq0 : goal.returns-else-has-eq0
returns-else-has-eq0 c = rw (ne_eqb _ _ c.if-has-eq0.false)
