-- `ring::moving::move_ring` meets its contract. The invariant: the first i vertices are written, and the rest of the room is as it came. Assumes nothing.
use native.Mathlib.Omega.{arith}
use mathlib.Core.Path.{refl}
use Rattle.ring.specs.Points.{points}
use Rattle.ring.specs.Moved.{moved_of}
use Rattle.ring.proofs.Points.{put_next, put_all}
use Rattle.ring.proofs.Moved.{moved_at_lem}
use Rattle.ring.proofs.moving.move_ring.Goals as goal

pub loop-i-init : goal.loop-i-init
unfolding points
loop-i-init c = (refl, refl)

pub loop-i-preserved : goal.loop-i-preserved
loop-i-preserved c =
    let v = c.loop-i.invariant in
    (omega (arith, c.put.auto.room), put_next _ _ _ (omega arith) v.1 (moved_at_lem _ _ _ c.point_at.ensures c.plus.ensures) c.put.ensures)

pub returns : goal.returns
unfolding moved_of
returns c = put_all _ _ _ _ c.loop-i.auto.i-end c.loop-i-test.false c.loop-i.invariant.1
