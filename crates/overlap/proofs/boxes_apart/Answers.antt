-- `overlap::boxes_apart` meets its contract: one axis after the other. Assumes nothing.
use Rattle.overlap.specs.Overlap.{boxes_apart}
use Rattle.overlap.proofs.boxes_apart.Goals as goal

pub returns-then-apart : goal.returns-then-apart
unfolding boxes_apart
returns-then-apart c =
    rw (← c.compute_bbox-p.ensures, ← c.compute_bbox-q.ensures, ← c.apart.ensures, c.if-apart.true)

pub returns-else-apart : goal.returns-else-apart
unfolding boxes_apart
returns-else-apart c =
    rw (← c.compute_bbox-p.ensures, ← c.compute_bbox-q.ensures, ← c.apart.ensures, c.if-apart.false, c.apart-else-apart.ensures)
