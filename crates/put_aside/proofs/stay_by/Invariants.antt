use Rattle.put_aside.proofs.Laying.{Rest}
use Rattle.put_aside.proofs.stay_by.Given as goal

abbrev pub invariant-loop-i : goal.invariant-loop-i
invariant-loop-i l = Rest l.list l.r l.i
