-- `ring_distance::foot` meets its contract: the two cases of the test. Assumes nothing.
use Rattle.ring_distance.specs.Squared.{foot_along}
use Rattle.ring_distance.proofs.foot.Goals as goal

pub returns-then-len2 : goal.returns-then-len2
unfolding foot_along
returns-then-len2 c = rw (← c.requires, c.if-len2.true)

pub returns : goal.returns
unfolding foot_along
returns c =
    rw (← c.requires, c.if-len2.false, c.clamp.ensures, c.dot.ensures)
