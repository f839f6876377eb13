-- `collision::pair` meets its contract: the indices by the kind. Assumes nothing.
use borrow.Author.Tests.{eq-eqb, ne_eqb}
use Rattle.collision.proofs.pair.Goals as goal

pub returns-then-kind-eq0 : goal.returns-then-kind-eq0
returns-then-kind-eq0 c = rw (c.counted.ensures, eq-eqb _ _ c.if-kind-eq0.true)

pub returns-else-kind-eq0 : goal.returns-else-kind-eq0
returns-else-kind-eq0 c = rw (c.counted-else-kind-eq0.ensures, ne_eqb _ _ c.if-kind-eq0.false)
