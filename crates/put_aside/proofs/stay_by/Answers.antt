-- `put_aside::stay_by` meets its contract. The invariant: the corners from i on decide. Assumes nothing.
use mathlib.Core.Path.{sym}
use Rattle.put_aside.proofs.Laying.{rest_start, rest_off, rest_turn, rest_end}
use Rattle.put_aside.proofs.stay_by.Goals as goal

pub loop-i-init : goal.loop-i-init
loop-i-init c = rest_start _ _

pub returns-then-not-on_grid : goal.returns-then-not-on_grid
returns-then-not-on_grid c =
    sym (rest_off _ _ c.loop-i.invariant c.loop-i-test.true c.spot_at.ensures
    c.corner_by.ensures c.on_grid.ensures c.if-not-on_grid.true)

pub loop-i-preserved : goal.loop-i-preserved
loop-i-preserved c =
    rest_turn _ _ c.loop-i.invariant c.loop-i-test.true c.spot_at.ensures
    c.corner_by.ensures c.on_grid.ensures c.if-not-on_grid.false

pub returns : goal.returns
returns c = sym (rest_end _ _ c.loop-i.invariant c.loop-i-test.false)
