-- `simplify::points` meets its contract: the cases of the tests. Assumes nothing.
use Rattle.simplify.proofs.Whole.{few, kept_is, lost, enough}
use Rattle.simplify.proofs.points.Goals as goal

pub returns-then-n-lt3 : goal.returns-then-n-lt3
returns-then-n-lt3 c = rw (few _ _ c.if-n-lt3.true)

pub returns-then-kept-lt3 : goal.returns-then-kept-lt3
returns-then-kept-lt3 c =
    rw (lost _ _ c.staying-kept.ensures c.if-n-lt3.false c.if-kept-lt3.true)

pub returns-else-kept-lt3 : goal.returns-else-kept-lt3
returns-else-kept-lt3 c =
    rw (enough _ _ c.staying-kept.ensures c.if-n-lt3.false c.if-kept-lt3.false) (kept_is _ _ c.staying-kept.ensures)
