-- `mending::write::count_staying` meets its contract: `proofs/Counting.antt` has the invariant; the measure is what is left of the ring. Assumes nothing.
use mathlib.Core.Bool.{not}
use mathlib.Core.Path.{sym, ap, ◌∙◌}
use native.Mathlib.Omega.{arith}
use Rattle.std.specs.Option.{is_some}
use Rattle.mending.proofs.Fates.{some_goes}
use Rattle.mending.proofs.Counting.{start, one_stays, one_goes, counted}
use Rattle.mending.proofs.write.count_staying.Goals as goal
use Rattle.mending.proofs.write.count_staying.Goals.{then-is_none, else-is_none}

pub loop-i-init : goal.loop-i-init
loop-i-init c = start _

pub fate_at-requires : goal.fate_at-requires
fate_at-requires c = record { i_bound = c.loop-i-test.true; by_index = c.requires }

pub overflow_add-staying : goal.overflow_add-staying
overflow_add-staying c =
    let i = c.loop-i.invariant in
    omega (arith, i.few, i.most)

pub loop-i-preserved : goal.loop-i-preserved
loop-i-preserved c =
    let h = sym (some_goes _ _) ∙ sym (ap is_some c.fate_at.ensures) ∙ c.is_none.ensures in
    elim c.if-is_none.branch [
      | then-is_none w ↦ rw w.staying-is (one_stays _ c.loop-i-test.true c.loop-i.invariant (h ∙ ap not w.if-is_none.true))
      | else-is_none w ↦ rw w.staying-is (one_goes _ c.loop-i-test.true c.loop-i.invariant (h ∙ ap not w.if-is_none.false))
    ]

pub returns : goal.returns
returns c =
    let i = c.loop-i.invariant in
    (counted _ c.loop-i-test.false i, omega (arith, i.few, i.most))
