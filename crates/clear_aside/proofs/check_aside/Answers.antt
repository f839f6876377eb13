-- `clear_aside::check_aside` meets its contract: the fronts of the arrays hold the disc put aside. Assumes nothing.
use mathlib.Core.Path.{sym}
use native.Mathlib.Omega.{arith}
use lib.Seq.{length-take-le}
use Rattle.clear_aside.proofs.Fronts.{checked_off, fronts_checked, checked_is}
use Rattle.clear_aside.proofs.check_aside.Goals as goal

pub slice_bounds-check-end : goal.slice_bounds-check-end
slice_bounds-check-end c =
    sym (length-take-le _ _ (omega (arith, c.put_both.auto.start)))

pub slice_bounds-check-end-then-put_both : goal.slice_bounds-check-end-then-put_both
slice_bounds-check-end-then-put_both c =
    sym (length-take-le _ _ (omega (arith, c.put_both.auto.end)))

pub check-requires : goal.check-requires
check-requires c =
    fronts_checked _ _ _ _ _ _ c.put_both.ensures.value c.if-put_both.true
    (c.put_both.ensures.both_hold c.if-put_both.true) _ c.requires.0 c.requires.1

pub returns-then-put_both : goal.returns-then-put_both
returns-then-put_both c =
    checked_is _ _ _ _ _ _ c.put_both.ensures.value c.if-put_both.true
    (c.put_both.ensures.both_hold c.if-put_both.true) _ c.check.ensures

pub returns-else-put_both : goal.returns-else-put_both
returns-else-put_both c =
    checked_off _ _ _ _ _ _ c.put_both.ensures.value c.if-put_both.false _
