-- `interlocking::try_toward` meets its contract: the position, then the test. Assumes nothing.
use Rattle.interlocking.specs.Interlocking.{try_of}
use Rattle.interlocking.proofs.try_toward.Goals as goal

pub returns-then-fits : goal.returns-then-fits
unfolding try_of
returns-then-fits c =
    rw (← c.point_at.ensures, ← c.minus.ensures, ← c.normalize-dir.ensures, ← c.ahead-at.ensures, ← c.fits.ensures, c.if-fits.true)

pub returns-else-fits : goal.returns-else-fits
unfolding try_of
returns-else-fits c =
    rw (← c.point_at.ensures, ← c.minus.ensures, ← c.normalize-dir.ensures, ← c.ahead-at.ensures, ← c.fits.ensures, c.if-fits.false)
