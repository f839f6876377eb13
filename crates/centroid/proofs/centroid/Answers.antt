-- `centroid::centroid` meets its contract: the two cases of the test. Assumes nothing.
use Rattle.centroid.specs.Centroid.{centroid_of}
use Rattle.centroid.proofs.centroid.Goals as goal

pub returns-then-abs : goal.returns-then-abs
unfolding centroid_of
returns-then-abs c =
    rw (← c.gathered-m.ensures, ← c.abs.ensures, c.if-abs.true, c.mean.ensures)

pub returns : goal.returns
unfolding centroid_of
returns c =
    rw (← c.gathered-m.ensures, ← c.abs.ensures, c.if-abs.false)
