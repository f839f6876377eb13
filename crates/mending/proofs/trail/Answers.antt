-- `mending::trail` meets its contract: `proofs/Trailing.antt` has the invariant; the measure is what is left of the ring. Assumes nothing.
use Rattle.mending.proofs.Trailing.{start, back, stopped, done}
use Rattle.mending.proofs.trail.Goals as goal

pub loop-end-init : goal.loop-end-init
loop-end-init c = start _ c.requires

pub loop-end-preserved : goal.loop-end-preserved
loop-end-preserved c =
    back _ c.loop-end-test.true c.loop-end.invariant (rw (← c.point_at-first.ensures, ← c.point_at.ensures, ← c.same.ensures) c.if-same.true)

pub returns-else-same : goal.returns-else-same
returns-else-same c =
    stopped _ c.loop-end-test.true c.loop-end.invariant (rw (← c.point_at-first.ensures, ← c.point_at.ensures, ← c.same.ensures) c.if-same.false)

pub returns-after-loop-end : goal.returns-after-loop-end
returns-after-loop-end c = done _ c.loop-end-test.false c.loop-end.invariant
