-- `plane::segment::project_point_to_segment` meets its contract: the two cases of the test. Assumes nothing.
use Rattle.plane.specs.Segment.{project_of}
use Rattle.plane.proofs.segment.project_point_to_segment.Goals as goal

pub returns-then-len_sq : goal.returns-then-len_sq
unfolding project_of
returns-then-len_sq c = rw (← c.minus-d.ensures, ← c.dot-len_sq.ensures, c.if-len_sq.true)

pub returns : goal.returns
unfolding project_of
returns c =
    rw (← c.minus-d.ensures, ← c.dot-len_sq.ensures, c.if-len_sq.false, c.clamped_foot.ensures)
