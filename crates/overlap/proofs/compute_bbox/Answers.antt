-- `overlap::compute_bbox` meets its contract. The invariant: both extents are those of the first i vertices. Assumes nothing.
use Rattle.overlap.proofs.Fold.{none_yet, x_more, y_more, box_all}
use Rattle.overlap.proofs.compute_bbox.Goals as goal

pub loop-i-init : goal.loop-i-init
loop-i-init c = (none_yet _, none_yet _)

pub loop-i-preserved : goal.loop-i-preserved
loop-i-preserved c =
    let v = c.loop-i.invariant in
    (x_more _ _ c.point_at-p.ensures v.0 c.wider-x.ensures, y_more _ _ c.point_at-p.ensures v.1 c.wider-y.ensures)

pub returns : goal.returns
returns c =
    let v = c.loop-i.invariant in
    box_all _ _ c.loop-i.auto.i-end c.loop-i-test.false v.0 v.1
