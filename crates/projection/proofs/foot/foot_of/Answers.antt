-- `projection::foot::foot_of` meets its contract: the parameter, and where it sits. Assumes nothing.
use Rattle.projection.specs.Foot.{foot_of}
use Rattle.projection.proofs.foot.foot_of.Goals as goal

pub returns : goal.returns
unfolding foot_of
returns c = rw (c.foot_at.ensures, c.project_point_to_segment.ensures)
