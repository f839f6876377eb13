-- `refusals::test::are_coordinates` meets its contract. The invariant: what is left of the list decides. Assumes nothing.
use mathlib.Core.Path.{sym, ap, ◌∙◌}
use mathlib.Core.Bool.{not}
use borrow.Author.Tests.{not-true, not-false}
use Rattle.refusals.proofs.Every.{every_on, every_off, every_end}
use Rattle.refusals.proofs.test.are_coordinates.Goals as goal

pub loop-x-preserved : goal.loop-x-preserved
loop-x-preserved c =
    c.loop-x.invariant ∙ every_on _ _ _ c.loop-x-test.true (sym c.is_coordinate.ensures ∙ not-false _ (ap not c.if-not-is_coordinate.false))

pub returns-then-not-is_coordinate : goal.returns-then-not-is_coordinate
returns-then-not-is_coordinate c =
    sym (c.loop-x.invariant ∙ every_off _ _ _ c.loop-x-test.true (sym c.is_coordinate.ensures ∙ not-true _ (ap not c.if-not-is_coordinate.true)))

pub returns : goal.returns
returns c = sym (c.loop-x.invariant ∙ every_end _ _ _ c.loop-x-test.false)
