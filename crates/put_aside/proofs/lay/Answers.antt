-- `put_aside::lay` meets its contract. The invariant: the first i corners are written, and the rest of the room is as it came.
-- Assumes nothing.
use Rattle.put_aside.proofs.Laying.{lay_start, lay_turn}
use Rattle.put_aside.proofs.lay.Goals as goal

pub loop-i-init : goal.loop-i-init
loop-i-init c = lay_start _ _ _

pub loop-i-preserved : goal.loop-i-preserved
loop-i-preserved c =
    lay_turn _ _ _ c.requires.2 c.loop-i-test.true c.spot_at.ensures c.corner_by.ensures c.put.ensures
    c.loop-i.invariant
