-- `clear_calls::check` meets its contract: the fronts of the arrays hold what is lent, moved up. Assumes nothing.
use mathlib.Core.Path.{sym, ◌∙◌}
use native.Mathlib.Omega.{arith}
use lib.IntN.{ℤ}
use lib.Seq.{length-take-le}
use Rattle.whole_moves.specs.Moved.{moved_up}
use Rattle.clear_calls.proofs.Passed.{as_lent}
use Rattle.clear_calls.proofs.Fronts.{lifted_front, moved_front, fronts_checked, check_is}
use Rattle.clear_calls.proofs.check.Goals as goal

pub slice_bounds-check-end : goal.slice_bounds-check-end
slice_bounds-check-end c =
    sym (length-take-le _ _ (omega (arith, c.lift.auto.room)))

pub slice_bounds-check-end-2 : goal.slice_bounds-check-end-2
slice_bounds-check-end-2 c =
    sym (length-take-le _ _ (omega (arith, c.lift-2.auto.room)))

pub slice_bounds-check-end-3 : goal.slice_bounds-check-end-3
slice_bounds-check-end-3 c =
    sym (length-take-le _ _ (omega (arith, c.lift_moved.auto.room)))

pub slice_bounds-check-end-4 : goal.slice_bounds-check-end-4
slice_bounds-check-end-4 c =
    sym (length-take-le _ _ (omega (arith, c.lift-3.auto.room)))

pub check-requires : goal.check-requires
check-requires c =
    let st = c.args.stationary.now in
    let orb = c.args.orbiting.now in
    let ls = c.args.reason.now in
    let moved = moved_front orb _ _ _ c.lift_moved.ensures
    ∙ as_lent (λ (x y : ℤ). moved_up orb x y) c.ranges.dx c.ranges.dy in
    fronts_checked st orb _ _ (lifted_front st _ c.lift.ensures) (lifted_front orb _ c.lift-2.ensures) moved ls
    (lifted_front ls _ c.lift-3.ensures) c.requires

pub returns : goal.returns
returns c =
    let st = c.args.stationary.now in
    let orb = c.args.orbiting.now in
    let ls = c.args.reason.now in
    let moved = moved_front orb _ _ _ c.lift_moved.ensures
    ∙ as_lent (λ (x y : ℤ). moved_up orb x y) c.ranges.dx c.ranges.dy in
    check_is st orb _ _ (lifted_front st _ c.lift.ensures) (lifted_front orb _ c.lift-2.ensures) moved ls
    (lifted_front ls _ c.lift-3.ensures) c.check.ensures
