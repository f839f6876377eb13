use Rattle.reason_check.proofs.Edges.{Edges}
use Rattle.reason_check.proofs.check.Given as goal

abbrev pub invariant-loop-j : goal.invariant-loop-j
invariant-loop-j l = Edges l.st l.a l.b l.ls l.j
