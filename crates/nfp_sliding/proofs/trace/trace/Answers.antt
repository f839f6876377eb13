-- `nfp_sliding::trace::trace` meets its contract: the fronts of both arrays are the polygons, counter-clockwise. Assumes nothing.
use native.Mathlib.Omega.{arith}
use mathlib.Core.Path.{refl, sym, ◌∙◌}
use lib.Seq.{length-take-le}
use Rattle.nfp_sliding.proofs.Traced.{ready, front}
use Rattle.nfp_sliding.specs.Path.{traced_of}
use Rattle.nfp_sliding.proofs.trace.trace.Goals as goal

pub slice_bounds-follow-end : goal.slice_bounds-follow-end
slice_bounds-follow-end c = sym (length-take-le _ _ (omega (arith, c.ensure_ccw.auto.room)))

pub slice_bounds-follow-end-2 : goal.slice_bounds-follow-end-2
slice_bounds-follow-end-2 c = sym (length-take-le _ _ (omega (arith, c.ensure_ccw-2.auto.room)))

pub follow-requires : goal.follow-requires
follow-requires c =
    let r = c.requires in
    rw (front _ _ r.st_even c.ensure_ccw.ensures, front _ _ r.orb_even c.ensure_ccw-2.ensures) (ready r)

pub returns : goal.returns
unfolding traced_of
returns c =
    let r = c.requires in
    let a = front _ _ r.st_even c.ensure_ccw.ensures in
    let b = front _ _ r.orb_even c.ensure_ccw-2.ensures in
    record { value = c.follow.ensures.value ∙ (rw (a, b) refl); work_after = c.follow.ensures.work_after ∙ (rw (a, b) refl) }
