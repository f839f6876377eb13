-- `frames::frame_of` meets its contract: the bounds are around the edges before i, and a is the start of the edge i. Assumes nothing.
use mathlib.Core.Path.{ap, ◌∙◌}
use native.Mathlib.Omega.{arith}
use Rattle.ring.specs.Ring.{point_at}
use Rattle.frames.proofs.Widened.{none_yet, one_more, next_start}
use Rattle.frames.proofs.frame_of.Goals as goal

pub loop-i-init : goal.loop-i-init
loop-i-init c = (none_yet _ _, λ h. c.point_at-a.ensures)

pub loop-i-preserved : goal.loop-i-preserved
loop-i-preserved c =
    let t = c.loop-i-test.true in
    let b = c.point_at-b.ensures ∙ ap (point_at _) c.next.ensures.0 in
    (one_more _ _ _ _ c.loop-i.invariant.0 (c.loop-i.invariant.1 t) b c.with_edge-q.ensures, λ h. next_start _ _ _ b h)

pub returns : goal.returns
returns c = λ i h. c.loop-i.invariant.0 i (omega (arith, c.loop-i-test.false, h))
