-- `simple_polygon::adjacent` meets its contract: one test after the other. Assumes nothing.
use borrow.Author.Tests.{eq-eqb, ne_eqb}
use Rattle.simple_polygon.specs.Simple.{adjacent_of}
use Rattle.simple_polygon.proofs.adjacent.Goals as goal

pub returns-then-j-i : goal.returns-then-j-i
unfolding adjacent_of
returns-then-j-i c = rw (eq-eqb _ _ c.if-j-i.true)

pub returns-then-i-eq0 : goal.returns-then-i-eq0
unfolding adjacent_of
returns-then-i-eq0 c = rw (ne_eqb _ _ c.if-j-i.false, eq-eqb _ _ c.if-i-eq0.true)

pub returns-else-i-eq0 : goal.returns-else-i-eq0
unfolding adjacent_of
returns-else-i-eq0 c = rw (ne_eqb _ _ c.if-j-i.false, ne_eqb _ _ c.if-i-eq0.false)
