use Rattle.collision.proofs.Rows.{Taken}
use Rattle.collision.proofs.plain_scan.Given as goal

abbrev pub invariant-loop-v : goal.invariant-loop-v
invariant-loop-v l = Taken l.vertices l.edges l.sweep l.kind l.initial.best l.v l.best
