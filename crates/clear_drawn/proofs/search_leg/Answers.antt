-- `clear_drawn::search_leg` meets its contract: the fronts of the arrays hold the corners at both ends. Assumes nothing.
use mathlib.Core.Path.{sym}
use native.Mathlib.Omega.{arith}
use lib.Seq.{length-take-le}
use Rattle.clear_calls.proofs.Fronts.{moved_front}
use Rattle.clear_drawn.proofs.Legs.{fronts_asked, leg_is, leg_kept}
use Rattle.clear_drawn.proofs.search_leg.Goals as goal

pub slice_bounds-search_aside-end : goal.slice_bounds-search_aside-end
slice_bounds-search_aside-end c =
    sym (length-take-le _ _ (omega (arith, c.place.auto.room)))

pub slice_bounds-search_aside-end-2 : goal.slice_bounds-search_aside-end-2
slice_bounds-search_aside-end-2 c =
    sym (length-take-le _ _ (omega (arith, c.place-2.auto.room)))

pub search_aside-requires : goal.search_aside-requires
search_aside-requires c =
    let first = moved_front c.args.disc.now _ _ _ c.place.ensures in
    let second = moved_front c.args.disc.now _ _ _ c.place-2.ensures in
    fronts_asked _ _ _ _ _ first second c.spot_in-from.ensures c.spot_in-to.ensures c.requires.0 _ c.requires.1

pub returns : goal.returns
returns c =
    let first = moved_front c.args.disc.now _ _ _ c.place.ensures in
    let second = moved_front c.args.disc.now _ _ _ c.place-2.ensures in
    let from = c.spot_in-from.ensures in
    let to = c.spot_in-to.ensures in record { result_value = leg_is _ _ _ _ _ first second from to c.search_aside.ensures.result_value; leg_kept = leg_kept _ _ _ _ _ first second from to _ _ c.search_aside.ensures.kept }
