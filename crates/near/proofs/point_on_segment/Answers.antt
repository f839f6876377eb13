-- `near::point_on_segment` meets its contract. Assumes nothing.
use mathlib.Core.Path.{refl}
use Rattle.plane.specs.Segment.{near_segment_of, to_segment_of}
use Rattle.near.proofs.point_on_segment.Goals as goal

pub returns : goal.returns
unfolding near_segment_of to_segment_of
returns c = rw (c.is_near.ensures, c.along.ensures, c.project_point_to_segment.ensures) refl
