-- `grounds::ground_by` meets its contract: one test after the other. Assumes nothing.
use borrow.Author.Tests.{eq-eqb, ne_eqb}
use Rattle.grounds.specs.Grounds.{ground_by}
use Rattle.grounds.proofs.ground_by.Goals as goal

pub returns-then-far-eq0 : goal.returns-then-far-eq0
unfolding ground_by
returns-then-far-eq0 c = rw (eq-eqb _ _ c.if-between-eq0.true, eq-eqb _ _ c.if-near-eq0.true, eq-eqb _ _ c.if-far-eq0.true)

pub returns-else-far-eq0 : goal.returns-else-far-eq0
unfolding ground_by
returns-else-far-eq0 c = rw (eq-eqb _ _ c.if-between-eq0.true, eq-eqb _ _ c.if-near-eq0.true, ne_eqb _ _ c.if-far-eq0.false)

pub returns-then-far-eq0-2 : goal.returns-then-far-eq0-2
unfolding ground_by
returns-then-far-eq0-2 c = rw (eq-eqb _ _ c.if-between-eq0.true, ne_eqb _ _ c.if-near-eq0.false, eq-eqb _ _ c.if-far-eq0-2.true)

pub returns-else-far-eq0-2 : goal.returns-else-far-eq0-2
unfolding ground_by
returns-else-far-eq0-2 c = rw (eq-eqb _ _ c.if-between-eq0.true, ne_eqb _ _ c.if-near-eq0.false, ne_eqb _ _ c.if-far-eq0-2.false)

pub returns-else-between-eq0 : goal.returns-else-between-eq0
unfolding ground_by
returns-else-between-eq0 c = rw (ne_eqb _ _ c.if-between-eq0.false)
