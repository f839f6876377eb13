-- `discs::draw` meets its contract. The invariant: the first i vertices are written, and the rest of the room is as it came. Assumes nothing.
use native.Mathlib.Omega.{arith}
use mathlib.Core.Path.{refl}
use Rattle.ring.specs.Points.{points}
use Rattle.ring.proofs.Points.{put_next, put_all}
use Rattle.discs.specs.Disc.{disc_of}
use Rattle.discs.proofs.draw.Goals as goal

pub loop-i-init : goal.loop-i-init
unfolding points
loop-i-init c = (refl, refl)

pub loop-i-preserved : goal.loop-i-preserved
loop-i-preserved c =
    (omega (arith, c.put.auto.room), put_next _ _ _ (omega arith) c.loop-i.invariant.1 c.vertex.ensures c.put.ensures)

pub returns : goal.returns
unfolding disc_of
returns c = put_all _ _ _ _ c.loop-i.auto.i-end c.loop-i-test.false c.loop-i.invariant.1
