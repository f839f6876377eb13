-- `collision::plain_scan` meets its contract: `proofs/Rows.antt` has the laws. The invariant: the first v vertices are taken. Assumes nothing.
use native.Mathlib.Omega.{arith}
use Rattle.collision.proofs.Rows.{none_taken, vertex_more, all_taken}
use Rattle.collision.proofs.plain_scan.Goals as goal

pub loop-v-init : goal.loop-v-init
loop-v-init c = none_taken _ _ _ _ _

pub row-best-requires : goal.row-best-requires
row-best-requires c = (omega arith, omega arith)

pub loop-v-preserved : goal.loop-v-preserved
loop-v-preserved c =
    vertex_more _ _ _ _ _ _ c.point_at-origin.ensures c.loop-v.invariant c.row-best.ensures

pub returns : goal.returns
returns c =
    let i = c.loop-v.invariant in
    all_taken _ _ _ _ _ _ (omega (arith, c.loop-v.auto.v-end, c.loop-v-test.false)) i
