-- `clear_drawn_path::path_found` meets its contract: the fronts of the arrays hold the drawing on the grid. Assumes nothing.
use mathlib.Core.Path.{sym}
use native.Mathlib.Omega.{arith}
use lib.Seq.{length-take-le}
use Rattle.clear_drawn.proofs.Drawn.{ring_front, grid_front}
use Rattle.clear_drawn_path.proofs.Drawn.{legs_lent, count_fits, path_is}
use Rattle.clear_drawn_path.proofs.path_found.Goals as goal

pub slice_bounds-first_leg-end : goal.slice_bounds-first_leg-end
slice_bounds-first_leg-end c =
    sym (length-take-le _ _ (omega (arith, c.lift_drawn.auto.room)))

pub slice_bounds-first_leg-end-2 : goal.slice_bounds-first_leg-end-2
slice_bounds-first_leg-end-2 c =
    sym (length-take-le _ _ (omega (arith, c.lay.auto.room)))

pub slice_bounds-first_leg-end-3 : goal.slice_bounds-first_leg-end-3
slice_bounds-first_leg-end-3 c =
    sym (length-take-le _ _ (omega (arith, c.lay-2.auto.room)))

pub first_leg-requires : goal.first_leg-requires
first_leg-requires c =
    let xs = c.args.stationary.now in
    let ys = c.args.orbiting.now in
    let path = c.args.path.now in
    let ring = ring_front c.args.units xs _ c.lift_drawn.ensures in
    let disc = grid_front c.args.units ys _ c.lay.ensures in
    let points = grid_front c.args.units path _ c.lay-2.ensures in (
      legs_lent c.requires.0 ring disc points,
      count_fits xs ys path c.args.closed c.args.units ring disc points c.leg_count-legs.ensures,
    )

pub returns : goal.returns
returns c =
    let xs = c.args.stationary.now in
    let ys = c.args.orbiting.now in
    let path = c.args.path.now in
    let ring = ring_front c.args.units xs _ c.lift_drawn.ensures in
    let disc = grid_front c.args.units ys _ c.lay.ensures in
    let points = grid_front c.args.units path _ c.lay-2.ensures in
    path_is xs ys path c.args.closed c.args.units ring disc points c.leg_count-legs.ensures c.first_leg.ensures
