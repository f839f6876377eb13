use Rattle.whole_moves.proofs.Turns.{Rest}
use Rattle.whole_moves.proofs.are_moved_within.Given as goal

abbrev pub invariant-loop-z : goal.invariant-loop-z
invariant-loop-z l = Rest l.list l.dx l.dy l.d l.e l.z-index
