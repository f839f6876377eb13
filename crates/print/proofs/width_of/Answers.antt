-- `print::width_of` meets its contract. The loop's invariant: the digits counted and those of what is left are the width. Assumes nothing.
use mathlib.Core.Path.{◌≡◌, sym, ◌∙◌}
use native.Mathlib.Omega.{arith}
use Rattle.print.proofs.Widths.{stop, last, more}
use Rattle.print.proofs.width_of.Goals as goal

pub loop-w-init : goal.loop-w-init
loop-w-init c = omega arith

pub returns-then-rest-eq0 : goal.returns-then-rest-eq0
returns-then-rest-eq0 c = (stop c.loop-w.w c.loop-w.rest c.if-rest-eq0.true ∙ sym c.loop-w.invariant, (omega arith))

pub loop-w-preserved : goal.loop-w-preserved
loop-w-preserved c = c.loop-w.invariant ∙ more c.loop-w.w c.loop-w.rest c.loop-w-test.true c.if-rest-eq0.false

pub returns : goal.returns
returns c =
    let e : 20 ≡ c.loop-w.w = omega arith in
    (e ∙ (last c.loop-w.w c.loop-w.rest c.loop-w-test.false ∙ sym c.loop-w.invariant), (omega arith))
