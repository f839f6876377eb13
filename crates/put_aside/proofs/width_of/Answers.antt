-- `put_aside::width_of` meets its contract: one comparison after the other. Assumes nothing.
use native.Mathlib.Omega.{arith}
use borrow.Author.Tests.{le-leb, lt-leb, eq-eqb, ne_eqb}
use Rattle.put_aside.specs.Aside.{width_of}
use Rattle.put_aside.proofs.width_of.Goals as goal

pub returns-then-how-eq0 : goal.returns-then-how-eq0
unfolding width_of
returns-then-how-eq0 c = (rw (eq-eqb _ _ c.if-how-eq0.true), omega arith)

pub returns-then-how-le10 : goal.returns-then-how-le10
unfolding width_of
returns-then-how-le10 c = (rw (ne_eqb _ _ c.if-how-eq0.false, le-leb _ _ c.if-how-le10.true), omega arith)

pub returns-else-how-le10 : goal.returns-else-how-le10
unfolding width_of
returns-else-how-le10 c = (rw (ne_eqb _ _ c.if-how-eq0.false, lt-leb _ _ c.if-how-le10.false), omega arith)
