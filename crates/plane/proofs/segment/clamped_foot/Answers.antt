-- `plane::segment::clamped_foot` meets its contract: the operations are those of the definition. Assumes nothing.
use Rattle.plane.specs.Segment.{clamped_foot}
use Rattle.plane.proofs.segment.clamped_foot.Goals as goal

pub returns : goal.returns
unfolding clamped_foot
returns c = rw (c.clamp.ensures, c.dot.ensures, c.minus.ensures)
