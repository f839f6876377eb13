-- `simplify::staying` meets its contract. The invariant: so many of the first i points stay. Assumes nothing.
use native.Mathlib.Omega.{arith}
use mathlib.Core.Path.{◌≡◌, refl, sym, ap, ◌∙◌}
use lib.ListN.{length}
use Rattle.ring.specs.Ring.{count}
use Rattle.simplify.specs.Simplify.{survivors}
use Rattle.simplify.proofs.Survive.{goes, two_more}
use Rattle.simplify.proofs.staying.Goals as goal
use Rattle.simplify.proofs.staying.Goals.{then-stays, else-stays}

pub loop-i-init : goal.loop-i-init
unfolding survivors
loop-i-init c = (omega arith, refl)

pub loop-i-preserved : goal.loop-i-preserved
loop-i-preserved c =
    elim c.if-stays.branch [
      | then-stays w ↦ (omega (arith, w.kept-is), rw w.kept-is (omega (arith, two_more _ _ _ c.stays.ensures w.if-stays.true)))
      | else-stays w ↦ (omega (arith, w.kept-is), rw w.kept-is (c.loop-i.invariant.1 ∙ sym (ap length (goes _ _ _ c.stays.ensures w.if-stays.false))))
    ]

pub returns : goal.returns
returns c =
    let a = c.args in
    let e : c.loop-i.i ≡ count a.list.now = omega arith in
    rw (← e) c.loop-i.invariant.1
