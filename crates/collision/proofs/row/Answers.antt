-- `collision::row` meets its contract: `proofs/Rows.antt` has the laws. The invariant: the edges below e are taken, and near is the least distance found. Assumes nothing.
use native.Mathlib.Omega.{arith}
use Rattle.collision.proofs.Rows.{none_yet, replaced, stayed, passed, all_of}
use Rattle.collision.proofs.row.Goals as goal
use Rattle.collision.proofs.row.Goals.{in-Some+then-counts_below, in-Some+else-counts_below, in_default}

pub loop-e-init : goal.loop-e-init
loop-e-init c = none_yet _ _ _ _ _ _ _ c.least-near.ensures

pub loop-e-preserved : goal.loop-e-preserved
loop-e-preserved c =
    let i = c.loop-e.invariant in
    elim c.match-ray.branch [
      | in-Some+then-counts_below w ↦
          rw (w.best-is, w.near-is)
          (replaced _ _ _ _ _ _ _ i c.edge_ray-ray.ensures w.in-Some.is w.counts_below.ensures w.if-counts_below.true w.pair-best.ensures)
      | in-Some+else-counts_below w ↦
          rw (w.best-is, w.near-is) (stayed _ _ _ _ _ _ _ i c.edge_ray-ray.ensures w.in-Some.is w.counts_below.ensures w.if-counts_below.false)
      | in_default w ↦ rw (w.best-is, w.near-is) (passed _ _ _ _ _ _ _ i c.edge_ray-ray.ensures w.in_default.is)
    ]

pub returns : goal.returns
returns c =
    let i = c.loop-e.invariant in
    all_of (omega (arith, c.loop-e.auto.e-end (omega arith), c.loop-e-test.false)) i.taken
