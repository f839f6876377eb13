use Rattle.shifted.proofs.Lifted.{Lifted}
use Rattle.shifted.proofs.lift.Given as goal

abbrev pub invariant-loop-i : goal.invariant-loop-i
invariant-loop-i l = Lifted l.list l.initial.room l.room l.i
