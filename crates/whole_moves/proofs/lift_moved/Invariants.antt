use Rattle.whole_moves.proofs.Turns.{Lifted}
use Rattle.whole_moves.proofs.lift_moved.Given as goal

abbrev pub invariant-loop-i : goal.invariant-loop-i
invariant-loop-i l = Lifted l.list l.dx l.dy l.initial.room l.room l.d l.e l.i
