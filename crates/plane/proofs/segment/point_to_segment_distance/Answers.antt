-- `plane::segment::point_to_segment_distance` meets its contract: the distance to the foot. Assumes nothing.
use Rattle.plane.specs.Segment.{to_segment_of}
use Rattle.plane.proofs.segment.point_to_segment_distance.Goals as goal

pub returns : goal.returns
unfolding to_segment_of
returns c = cc
