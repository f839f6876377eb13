-- `put_aside::corner_by` meets its contract: drawn in, or by its step. Assumes nothing.
use borrow.Author.Tests.{eq-eqb}
use Rattle.put_aside.specs.Aside.{corner_by}
use Rattle.put_aside.proofs.Steps.{step_fits, stepped}
use Rattle.put_aside.proofs.corner_by.Goals as goal

pub returns-then-r-eq1 : goal.returns-then-r-eq1
unfolding corner_by
returns-then-r-eq1 c = rw (eq-eqb _ _ c.if-r-eq1.true, c.inward.ensures, c.inward-then-r-eq1.ensures)

pub gone-requires : goal.gone-requires
gone-requires c = (c.requires.1.width, (step_fits _ _ c.step_of-s.ensures c.requires.0).0)

pub gone-requires-2 : goal.gone-requires-2
gone-requires-2 c =
    (c.requires.1.height, (step_fits _ _ c.step_of-s.ensures c.requires.0).1)

pub returns : goal.returns
returns c =
    stepped _ _ c.step_of-s.ensures c.if-r-eq1.false c.gone.ensures c.gone-2.ensures
