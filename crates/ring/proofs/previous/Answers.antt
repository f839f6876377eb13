-- `ring::previous` meets its contract: the two cases of the test. Assumes nothing.
use native.Mathlib.Omega.{arith}
use borrow.Author.Tests.{eq-eqb, ne_eqb}
use Rattle.ring.specs.Ring.{previous_vertex}
use Rattle.ring.proofs.previous.Goals as goal

pub returns-then-i-eq0 : goal.returns-then-i-eq0
unfolding previous_vertex
returns-then-i-eq0 c = (rw (eq-eqb _ _ c.if-i-eq0.true), omega arith)

pub returns-else-i-eq0 : goal.returns-else-i-eq0
unfolding previous_vertex
returns-else-i-eq0 c = (rw (ne_eqb _ _ c.if-i-eq0.false), omega arith)
