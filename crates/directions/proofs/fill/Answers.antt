-- `directions::fill` meets its contract. The invariant: the first i directions are written, and the rest of the room is as it came. Assumes nothing.
use native.Mathlib.Omega.{arith}
use mathlib.Core.Path.{refl, ap, ◌∙◌}
use Rattle.plane.specs.Vector.{normalize_of}
use Rattle.ring.specs.Points.{points}
use Rattle.ring.proofs.Points.{put_next, put_all}
use Rattle.directions.proofs.Filled.{filled}
use Rattle.directions.proofs.fill.Goals as goal

pub loop-i-init : goal.loop-i-init
unfolding points
loop-i-init c = (refl, refl)

pub loop-i-preserved : goal.loop-i-preserved
loop-i-preserved c =
    let v = c.loop-i.invariant in
    (omega (arith, c.put.auto.room), put_next _ _ _ (omega arith) v.1 (c.normalize.ensures ∙ ap normalize_of c.edge.ensures) c.put.ensures)

pub returns : goal.returns
returns c =
    let v = c.loop-i.invariant in
    filled _ _ (omega arith) (put_all _ _ _ _ c.loop-i.auto.i-end c.loop-i-test.false v.1)
