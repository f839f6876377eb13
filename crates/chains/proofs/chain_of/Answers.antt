-- `chains::chain_of` meets its contract: `proofs/Edges.antt` has the laws. The invariant: the edges below e are taken, and p is the start of the edge e. Assumes nothing.
use mathlib.Core.Path.{ap, ◌∙◌}
use native.Mathlib.Omega.{arith}
use Rattle.ring.specs.Ring.{point_at}
use Rattle.frames.proofs.Widened.{next_start}
use Rattle.chains.proofs.Edges.{none_taken, one_taken, all_taken}
use Rattle.chains.proofs.chain_of.Goals as goal

pub loop-e-init : goal.loop-e-init
loop-e-init c = (none_taken _ _ _ _ _, λ h. c.point_at-p.ensures)

pub loop-e-preserved : goal.loop-e-preserved
loop-e-preserved c =
    let t = c.loop-e-test.true in
    let q = c.point_at-q.ensures ∙ ap (point_at _) c.next.ensures.0 in (one_taken _ _ _ _ _ _ _ c.loop-e.invariant.0 (c.loop-e.invariant.1 t) q c.with_point-frame.ensures c.width.ensures c.higher-far.ensures, λ h. next_start _ _ _ q (omega (arith, h)))

pub returns : goal.returns
returns c = all_taken _ _ _ _ _ _ _ _ c.loop-e-test.false c.loop-e.invariant.0 c.bounds.ensures
