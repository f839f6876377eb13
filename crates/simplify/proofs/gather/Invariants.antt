use Rattle.simplify.proofs.Survive.{Gathering}
use Rattle.simplify.proofs.gather.Given as goal

abbrev pub invariant-loop-i : goal.invariant-loop-i
invariant-loop-i l = Gathering l.list l.tolerance l.initial.room l.room l.k l.i
