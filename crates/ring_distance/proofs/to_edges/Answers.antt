-- `ring_distance::to_edges` meets its contract. The invariant: the edges below e are taken, and a is the start of the edge e. Assumes nothing.
use native.Mathlib.Omega.{arith}
use mathlib.Core.Path.{ap, ◌∙◌}
use Rattle.ring.specs.Ring.{point_at}
use Rattle.frames.proofs.Widened.{next_start}
use Rattle.ring_distance.specs.Squared.{squared_to}
use Rattle.ring_distance.proofs.Turns.{none_taken, one_taken, at_end}
use Rattle.ring_distance.proofs.to_edges.Goals as goal

pub loop-e-init : goal.loop-e-init
loop-e-init c = (none_taken _ _ _ _, λ h. c.point_at-a.ensures)

pub loop-e-preserved : goal.loop-e-preserved
loop-e-preserved c =
    let t = c.loop-e-test.true in
    let l = c.loop-e.invariant in
    let q = c.point_at-b.ensures ∙ ap (point_at _) c.next.ensures.0 in (one_taken _ _ _ _ _ l.0 (l.1 t) q c.to_edge-least.ensures, λ h. next_start _ _ _ q (omega (arith, h)))

pub returns : goal.returns
returns c =
    let l = c.loop-e.invariant in
    λ b h. at_end (squared_to _ _ b) (l.0 b h) (c.loop-e.auto.e-end (omega arith)) c.loop-e-test.false
