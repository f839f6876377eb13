-- `recovery::foot` meets its contract: the two ends, the foot, its distance. Assumes nothing.
use Rattle.recovery.specs.Recovery.{closest_on}
use Rattle.recovery.proofs.foot.Goals as goal

pub returns : goal.returns
unfolding closest_on
returns c =
    rw (c.distance.ensures, c.along-p.ensures, c.project_point_to_segment.ensures, c.point_at-b.ensures, c.next.ensures.0, c.point_at-a.ensures)
