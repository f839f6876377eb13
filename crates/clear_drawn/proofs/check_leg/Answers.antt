-- `clear_drawn::check_leg` meets its contract: the fronts of the arrays hold the corners at both ends. Assumes nothing.
use mathlib.Core.Path.{sym}
use native.Mathlib.Omega.{arith}
use lib.Seq.{length-take-le}
use Rattle.clear_calls.proofs.Fronts.{moved_front}
use Rattle.clear_drawn.proofs.Legs.{fronts_asked, leg_checked_lem}
use Rattle.clear_drawn.proofs.check_leg.Goals as goal

pub slice_bounds-check_aside-end : goal.slice_bounds-check_aside-end
slice_bounds-check_aside-end c =
    sym (length-take-le _ _ (omega (arith, c.place.auto.room)))

pub slice_bounds-check_aside-end-2 : goal.slice_bounds-check_aside-end-2
slice_bounds-check_aside-end-2 c =
    sym (length-take-le _ _ (omega (arith, c.place-2.auto.room)))

pub check_aside-requires : goal.check_aside-requires
check_aside-requires c =
    let first = moved_front c.args.disc.now _ _ _ c.place.ensures in
    let second = moved_front c.args.disc.now _ _ _ c.place-2.ensures in (
      fronts_asked _ _ _ _ _ first second c.spot_in-from.ensures c.spot_in-to.ensures c.requires.leg_lent.0 _ c.requires.st_in_bounds.0,
      c.requires.st_in_bounds.1,
      c.requires.leg_lent.1,
    )

pub returns : goal.returns
returns c =
    let first = moved_front c.args.disc.now _ _ _ c.place.ensures in
    let second = moved_front c.args.disc.now _ _ _ c.place-2.ensures in
    leg_checked_lem _ _ _ _ _ first second c.spot_in-from.ensures c.spot_in-to.ensures _ _ c.check_aside.ensures
