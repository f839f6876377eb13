-- `wkb_reader::check::numbers` meets its contract. The loop's invariant: the check of the coordinates left, from j on, decides. Assumes nothing.
use mathlib.Core.Bool.{not}
use mathlib.Core.Path.{◌≡◌, sym, ap, ◌∙◌}
use borrow.Author.Tests.{not-true, not-false}
use Rattle.refusals.specs.Bounds.{coordinate}
use Rattle.wkb_layout.specs.Faults.{number_in}
use Rattle.wkb_reader.proofs.Numbers.{number_at, check_start, number_good, number_bad, check_end}
use Rattle.wkb_reader.proofs.check.numbers.Goals as goal
use Rattle.wkb_reader.proofs.check.numbers.Goals.{After-is_coordinate}
use Rattle.wkb_reader.proofs.check.numbers.Lts.View.{up-After-is_coordinate}

-- what was asked of coordinate j
asked : (c : After-is_coordinate)
    → c.is_coordinate.result ≡ coordinate (number_in c.args.f.now (number_at c.loop-j.j))
asked c = c.is_coordinate.ensures ∙ ap coordinate c.number.ensures

pub loop-j-init : goal.loop-j-init
loop-j-init c = (check_start c.args.f.now c.args.m)

pub returns-then-not-is_coordinate : goal.returns-then-not-is_coordinate
returns-then-not-is_coordinate c =
    let a = c.args in
    c.fault.ensures
    ∙ sym (c.loop-j.invariant ∙ number_bad a.f.now a.m c.loop-j.j c.loop-j-test.true (sym (asked (up-After-is_coordinate _ _ _ _ _ c.before.before.before)) ∙ not-true c.is_coordinate.result (ap not c.if-not-is_coordinate.true)))

pub loop-j-preserved : goal.loop-j-preserved
loop-j-preserved c =
    let a = c.args in
    (c.loop-j.invariant ∙ number_good a.f.now a.m c.loop-j.j c.loop-j-test.true (sym (asked (up-After-is_coordinate _ _ _ _ _ c.before.before)) ∙ not-false c.is_coordinate.result (ap not c.if-not-is_coordinate.false)))

pub returns : goal.returns
returns c =
    let a = c.args in
    sym (c.loop-j.invariant ∙ check_end a.f.now a.m c.loop-j.j c.loop-j-test.false)
