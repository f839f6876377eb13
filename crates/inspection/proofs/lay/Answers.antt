-- `inspection::lay` meets its contract: `proofs/Laying.antt` has the invariant, over the front of the room. Assumes nothing.
use Rattle.std.proofs.Common.{arith, length}
use lib.ListN.{take}
use lib.Seq.{length-take-le}
use Rattle.inspection.proofs.Laying.{begin, turn, filled}
use Rattle.inspection.proofs.lay.Goals as goal

pub loop-slot-init : goal.loop-slot-init
loop-slot-init c = begin _ _ _ _ c.requires.start_lt_n

pub loop-slot-preserved : goal.loop-slot-preserved
loop-slot-preserved c =
    let long = length-take-le c.args.m c.args.room.now c.requires.m_in_bounds in
    turn _ _ _ _ (omega (arith, long)) (omega (arith, long, c.loop-slot-test.true)) c.loop-slot.invariant c.next_place-place.ensures

pub returns : goal.returns
returns c =
    let long = length-take-le c.args.m c.args.room.now c.requires.m_in_bounds in
    let p = filled _ _ _ _ c.requires.m_in_bounds (omega (arith, long, c.loop-slot-test.false)) c.loop-slot.invariant in
    record { value = p.0; room_after = p.1 }
