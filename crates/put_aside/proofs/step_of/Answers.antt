-- `put_aside::step_of` meets its contract: by the way. Assumes nothing.
use borrow.Author.Tests.{eq-eqb, ne_eqb}
use Rattle.put_aside.specs.Aside.{step_of}
use Rattle.put_aside.proofs.step_of.Goals as goal

pub returns-then-r-eq0 : goal.returns-then-r-eq0
unfolding step_of
returns-then-r-eq0 c = rw (eq-eqb _ _ c.if-r-eq0.true) c.step_by.ensures

pub returns-then-r-eq2 : goal.returns-then-r-eq2
unfolding step_of
returns-then-r-eq2 c =
    rw (ne_eqb _ _ c.if-r-eq0.false, eq-eqb _ _ c.if-r-eq2.true, ← c.across_of.ensures.0)
    c.towards.ensures

pub returns : goal.returns
unfolding step_of
returns c = rw (ne_eqb _ _ c.if-r-eq0.false, ne_eqb _ _ c.if-r-eq2.false) c.set_off.ensures
