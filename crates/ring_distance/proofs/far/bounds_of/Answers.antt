-- `ring_distance::far::bounds_of` meets its contract: `proofs/Filled.antt` has the laws. The invariant: the edges below e are bounded, and a is
-- the start of the edge e. Assumes nothing.
use native.Mathlib.Omega.{arith}
use mathlib.Core.Path.{ap, ◌∙◌}
use Rattle.ring.specs.Ring.{point_at}
use Rattle.frames.proofs.Widened.{next_start}
use Rattle.ring_distance.proofs.Filled.{none_bounded, one_bounded}
use Rattle.ring_distance.proofs.far.bounds_of.Goals as goal

pub loop-e-init : goal.loop-e-init
loop-e-init c = (none_bounded _ _ _, c.frame_at-ways.ensures, λ h. c.point_at-a.ensures)

pub loop-e-preserved : goal.loop-e-preserved
loop-e-preserved c =
    let i = c.loop-e.invariant in
    let t = c.loop-e-test.true in
    let q = c.point_at-b.ensures ∙ ap (point_at _) c.next.ensures.0 in (one_bounded _ _ _ _ _ i.0 i.1 (i.2 t) q c.minus.ensures c.with_point-starts.ensures c.with_point-ways.ensures, c.with_point-ways.ensures.1.0 _ i.1, λ h. next_start _ _ _ q (omega (arith, h, c.requires.1)))

pub returns : goal.returns
returns c = λ k l h. c.loop-e.invariant.0 k l (omega (arith, c.loop-e-test.false, h))
