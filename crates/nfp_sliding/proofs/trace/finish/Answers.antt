-- `nfp_sliding::trace::finish` meets its contract: `proofs/Told.antt` has its three cases. Assumes nothing.
use mathlib.Core.Path.{sym}
use lib.Seq.{length-take-le}
use Rattle.nfp_sliding.proofs.Told.{told_full, told_short, told_all, whole, fits}
use Rattle.nfp_sliding.proofs.trace.finish.Goals as goal

pub returns-then-end : goal.returns-then-end
returns-then-end c = record { result_value = (told_full _ _ _ _ _ _ c.args.res.now c.requires.stored_in_bounds c.if-end.true).0; res_after = (told_full _ _ _ _ _ _ c.args.res.now c.requires.stored_in_bounds c.if-end.true).1 }

pub returns-then-stored-lt3 : goal.returns-then-stored-lt3
returns-then-stored-lt3 c = record { result_value = (told_short _ _ _ _ _ _ c.args.res.now c.requires.stored_in_bounds c.if-end.false c.if-stored-lt3.true).0; res_after = (told_short _ _ _ _ _ _ c.args.res.now c.requires.stored_in_bounds c.if-end.false c.if-stored-lt3.true).1 }

pub slice_bounds-simplify-end : goal.slice_bounds-simplify-end
slice_bounds-simplify-end c = sym (length-take-le _ _ c.requires.stored_in_bounds)

pub simplify-points-requires : goal.simplify-points-requires
simplify-points-requires c = record { list_len = whole _ _ c.requires.stored_in_bounds; tolerance_in_bounds = fits _ _ c.requires.stored_in_bounds _ _ c.requires.work_in_bounds }

pub returns : goal.returns
returns c = record { result_value = (told_all _ _ _ _ _ _ c.args.res.now c.requires.stored_in_bounds c.if-end.false c.if-stored-lt3.false c.simplify-points.ensures.value c.simplify-points.ensures.room_after).0; res_after = (told_all _ _ _ _ _ _ c.args.res.now c.requires.stored_in_bounds c.if-end.false c.if-stored-lt3.false c.simplify-points.ensures.value c.simplify-points.ensures.room_after).1 }
