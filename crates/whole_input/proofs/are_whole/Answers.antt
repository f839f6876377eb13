-- `whole_input::are_whole` meets its contract. The invariant: what is left of the list decides. Assumes nothing.
use Rattle.std.proofs.Common.{sym, refl, ◌∙◌}
use mathlib.Core.Bool.{not}
use mathlib.Core.Path.{ap}
use borrow.Author.Tests.{not-true, not-false}
use Rattle.refusals.specs.Bounds.{coordinate}
use Rattle.refusals.proofs.Every.{every_on, every_off, every_end, every_at}
use Rattle.whole_input.proofs.are_whole.Goals as goal

pub loop-x-init : goal.loop-x-init
loop-x-init c = refl

pub is_whole-requires : goal.is_whole-requires
is_whole-requires c =
    every_at coordinate _ c.loop-x.x-index c.requires c.loop-x-test.true

pub loop-x-preserved : goal.loop-x-preserved
loop-x-preserved c =
    c.loop-x.invariant ∙ every_on _ _ _ c.loop-x-test.true (sym c.is_whole.ensures ∙ not-false c.is_whole.result (ap not c.if-not-is_whole.false))

pub returns-then-not-is_whole : goal.returns-then-not-is_whole
returns-then-not-is_whole c =
    sym (c.loop-x.invariant ∙ every_off _ _ _ c.loop-x-test.true (sym c.is_whole.ensures ∙ not-true c.is_whole.result (ap not c.if-not-is_whole.true)))

pub returns : goal.returns
returns c = sym (c.loop-x.invariant ∙ every_end _ _ _ c.loop-x-test.false)
