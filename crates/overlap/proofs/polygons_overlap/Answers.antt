-- `overlap::polygons_overlap` meets its contract: the boxes, the edges of one, the edges of the other. Assumes nothing.
use Rattle.overlap.specs.Overlap.{overlap_of}
use Rattle.overlap.proofs.polygons_overlap.Goals as goal

pub returns-then-boxes_apart : goal.returns-then-boxes_apart
unfolding overlap_of
returns-then-boxes_apart c = rw (← c.boxes_apart.ensures, c.if-boxes_apart.true)

pub returns-then-meets_along : goal.returns-then-meets_along
unfolding overlap_of
returns-then-meets_along c =
    rw (← c.boxes_apart.ensures, c.if-boxes_apart.false, ← c.meets_along.ensures, c.if-meets_along.true, c.meets_along-then-meets_along.ensures)

pub returns-else-meets_along : goal.returns-else-meets_along
unfolding overlap_of
returns-else-meets_along c =
    rw (← c.boxes_apart.ensures, c.if-boxes_apart.false, ← c.meets_along.ensures, c.if-meets_along.false)
