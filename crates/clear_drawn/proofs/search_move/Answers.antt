-- `clear_drawn::search_move` meets its contract: the fronts of the arrays hold the drawing on the grid. Assumes nothing.
use mathlib.Core.Path.{sym}
use native.Mathlib.Omega.{arith}
use lib.Seq.{length-take-le}
use Rattle.clear_drawn.proofs.Drawn.{ring_front, grid_front, move_lent, enough, move_is, move_kept}
use Rattle.clear_drawn.proofs.search_move.Goals as goal

pub slice_bounds-search_leg-end : goal.slice_bounds-search_leg-end
slice_bounds-search_leg-end c =
    sym (length-take-le _ _ (omega (arith, c.lift_drawn.auto.room)))

pub slice_bounds-search_leg-end-2 : goal.slice_bounds-search_leg-end-2
slice_bounds-search_leg-end-2 c =
    sym (length-take-le _ _ (omega (arith, c.lay.auto.room)))

pub slice_bounds-search_leg-end-3 : goal.slice_bounds-search_leg-end-3
slice_bounds-search_leg-end-3 c =
    sym (length-take-le _ _ (omega (arith, c.lay-2.auto.room)))

pub search_leg-requires : goal.search_leg-requires
search_leg-requires c =
    let ring = ring_front c.args.units c.args.stationary.now _ c.lift_drawn.ensures in
    let disc = grid_front c.args.units c.args.orbiting.now _ c.lay.ensures in
    let points = grid_front c.args.units c.args.path.now _ c.lay-2.ensures in
    let most = enough c.requires.0 c.requires.1 ring disc points in
    (move_lent c.requires.0 c.requires.1 ring disc points, omega (arith, most, c.requires.2))

pub returns : goal.returns
returns c =
    let ring = ring_front c.args.units c.args.stationary.now _ c.lift_drawn.ensures in
    let disc = grid_front c.args.units c.args.orbiting.now _ c.lay.ensures in
    let points = grid_front c.args.units c.args.path.now _ c.lay-2.ensures in
    let xs = c.args.stationary.now in
    let ys = c.args.orbiting.now in
    let path = c.args.path.now in record { result_value = move_is xs ys path c.args.units ring disc points c.search_leg.ensures.result_value; move_kept = move_kept xs ys path c.args.units ring disc points _ _ c.search_leg.ensures.leg_kept }
