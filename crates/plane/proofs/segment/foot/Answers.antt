-- `plane::segment::foot` meets its contract: the two cases of the test. Assumes nothing.
use Rattle.plane.specs.Segment.{ring_foot_of}
use Rattle.plane.proofs.segment.foot.Goals as goal

pub returns-then-len2 : goal.returns-then-len2
unfolding ring_foot_of
returns-then-len2 c = rw (← c.minus-d.ensures, ← c.dot-len2.ensures, c.if-len2.true)

pub returns : goal.returns
unfolding ring_foot_of
returns c =
    rw (← c.minus-d.ensures, ← c.dot-len2.ensures, c.if-len2.false, c.clamped_foot.ensures)
