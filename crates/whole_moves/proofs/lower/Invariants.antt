use Rattle.whole_moves.proofs.Lowered.{Lowered}
use Rattle.whole_moves.proofs.lower.Given as goal

abbrev pub invariant-loop-i : goal.invariant-loop-i
invariant-loop-i l = Lowered l.list l.n l.initial.room l.room l.i
