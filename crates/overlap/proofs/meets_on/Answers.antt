-- `overlap::meets_on` meets its contract: the test of the axis, then the two extents. Assumes nothing.
use Rattle.overlap.specs.Overlap.{meets_on}
use Rattle.overlap.proofs.meets_on.Goals as goal

pub returns-then-is_no_axis : goal.returns-then-is_no_axis
unfolding meets_on
returns-then-is_no_axis c = rw (← c.is_no_axis.ensures, c.if-is_no_axis.true)

pub returns : goal.returns
unfolding meets_on
returns c =
    rw (← c.is_no_axis.ensures, c.if-is_no_axis.false, c.apart.ensures, c.project_polygon_on_axis-f.ensures, c.project_polygon_on_axis-e.ensures)
