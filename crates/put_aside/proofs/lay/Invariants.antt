use Rattle.put_aside.proofs.Laying.{Laid}
use Rattle.put_aside.proofs.lay.Given as goal

abbrev pub invariant-loop-i : goal.invariant-loop-i
invariant-loop-i l = Laid l.list l.r l.initial.room l.room l.i
