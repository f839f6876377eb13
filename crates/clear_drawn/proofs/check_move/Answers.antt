-- `clear_drawn::check_move` meets its contract: the fronts of the arrays hold the drawing on the grid, and the lines. Assumes
-- nothing.
use mathlib.Core.Path.{sym, ap, ◌∙◌}
use native.Mathlib.Omega.{arith}
use lib.Seq.{length-take-le}
use Rattle.reasons.specs.Check.{Ground}
use Rattle.clear_calls.proofs.Fronts.{lifted_front}
use Rattle.clear_drawn.specs.Calls.{with_how}
use Rattle.clear_drawn.proofs.Drawn.{ring_front, grid_front, move_lent, lines_lent, move_checked_lem}
use Rattle.clear_drawn.proofs.check_move.Goals as goal

pub slice_bounds-check_leg-end : goal.slice_bounds-check_leg-end
slice_bounds-check_leg-end c =
    sym (length-take-le _ _ (omega (arith, c.lift_drawn.auto.room)))

pub slice_bounds-check_leg-end-2 : goal.slice_bounds-check_leg-end-2
slice_bounds-check_leg-end-2 c =
    sym (length-take-le _ _ (omega (arith, c.lay.auto.room)))

pub slice_bounds-check_leg-end-3 : goal.slice_bounds-check_leg-end-3
slice_bounds-check_leg-end-3 c =
    sym (length-take-le _ _ (omega (arith, c.lay-2.auto.room)))

pub slice_bounds-check_leg-end-4 : goal.slice_bounds-check_leg-end-4
slice_bounds-check_leg-end-4 c =
    sym (length-take-le _ _ (omega (arith, c.lift.auto.room, c.requires.lines_lent.0.four_each, c.requires.drawn_lent.0.ring_most)))

pub check_leg-g-requires : goal.check_leg-g-requires
check_leg-g-requires c =
    let ring = ring_front c.args.units c.args.stationary.now _ c.lift_drawn.ensures in
    let disc = grid_front c.args.units c.args.orbiting.now _ c.lay.ensures in
    let points = grid_front c.args.units c.args.path.now _ c.lay-2.ensures in
    let lines = lifted_front c.args.reason.now _ c.lift.ensures in
    record { leg_lent = (move_lent c.requires.drawn_lent.0 c.requires.drawn_lent.1 ring disc points, c.requires.lines_lent.1); st_in_bounds = lines_lent c.args.units c.args.stationary.now c.args.reason.now ring lines c.requires.lines_lent.0 }

pub returns : goal.returns
returns c =
    let ring = ring_front c.args.units c.args.stationary.now _ c.lift_drawn.ensures in
    let disc = grid_front c.args.units c.args.orbiting.now _ c.lay.ensures in
    let points = grid_front c.args.units c.args.path.now _ c.lay-2.ensures in
    let lines = lifted_front c.args.reason.now _ c.lift.ensures in
    c.with_how.ensures
    ∙ ap (λ (g : Ground). with_how g c.args.how)
    (move_checked_lem c.args.stationary.now c.args.orbiting.now c.args.path.now c.args.units ring disc points _
    c.args.reason.now lines c.check_leg-g.ensures)
