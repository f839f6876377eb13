-- `path_check::leg_of` meets its contract: the next point less this one. Assumes nothing.
use Rattle.path_check.specs.Path.{leg_of}
use Rattle.path_check.proofs.leg_of.Goals as goal

pub returns : goal.returns
unfolding leg_of
returns c =
    rw (c.minus.ensures, c.point_at-2.ensures, c.point_at.ensures, c.next.ensures.0)
