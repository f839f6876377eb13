-- `clear_path::search_leg` meets its contract: the fronts of the arrays hold the corners at both ends. Assumes nothing.
use borrow.Author.Rules.{rules}
use mathlib.Core.Path.{sym}
use native.Mathlib.Omega.{arith}
use lib.Seq.{length-take-le}
use Rattle.clear_calls.proofs.Fronts.{moved_front}
use Rattle.clear_path.proofs.Placed.{fronts_searched, leg_is}
use Rattle.clear_path.proofs.search_leg.Goals as goal

pub slice_bounds-search-end : goal.slice_bounds-search-end
slice_bounds-search-end c =
    sym (length-take-le _ _ (omega (arith, c.place.auto.room)))

pub slice_bounds-search-end-2 : goal.slice_bounds-search-end-2
slice_bounds-search-end-2 c =
    sym (length-take-le _ _ (omega (arith, c.place-2.auto.room)))

pub search-requires : goal.search-requires
search-requires c =
    let orb = c.args.orbiting.now in
    let first = moved_front orb _ _ _ c.place.ensures in
    let second = moved_front orb _ _ _ c.place-2.ensures in
    fronts_searched _ _ _ _ c.requires.1 c.requires.0 first second c.next.ensures.0 _ (search rules)

pub returns : goal.returns
returns c =
    let orb = c.args.orbiting.now in
    let first = moved_front orb _ _ _ c.place.ensures in
    let second = moved_front orb _ _ _ c.place-2.ensures in
    leg_is _ _ _ _ c.requires.1 c.requires.0 first second c.next.ensures.0 c.search.ensures.result_value
