-- `projection::foot::foot_at` meets its contract, test by test. Assumes nothing.
use Rattle.projection.specs.Foot.{foot_at}
use Rattle.projection.proofs.foot.foot_at.Goals as goal

pub returns-then-t : goal.returns-then-t
unfolding foot_at
returns-then-t c = simp c.if-t.true

pub returns-then-t-2 : goal.returns-then-t-2
unfolding foot_at
returns-then-t-2 c = simp (c.if-t.false, c.if-t-2.true)

pub returns : goal.returns
unfolding foot_at
returns c = simp (c.if-t.false, c.if-t-2.false)
