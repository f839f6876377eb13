-- `plane::segment::point_segment_distance` meets its contract: the operations are those of the definition. Assumes nothing.
use Rattle.plane.specs.Vector.{minus_of}
use Rattle.plane.specs.Segment.{segment_distance_of}
use Rattle.plane.proofs.segment.point_segment_distance.Goals as goal

pub returns : goal.returns
unfolding segment_distance_of minus_of
returns c =
    rw (c.sqrt.ensures.is, c.foot-t.ensures, c.minus-d.ensures)
