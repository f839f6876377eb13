use lib.ListN.{take}
use Rattle.inspection.proofs.Laying.{Laying}
use Rattle.inspection.proofs.lay.Given as goal

abbrev pub invariant-loop-slot : goal.invariant-loop-slot
invariant-loop-slot l = Laying l.n l.start l.m (take l.m l.fn.room) l.slot-items l.place l.slot-index
