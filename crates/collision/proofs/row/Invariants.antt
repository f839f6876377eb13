use Rattle.collision.proofs.Rows.{Sofar}
use Rattle.collision.proofs.row.Given as goal

abbrev pub invariant-loop-e : goal.invariant-loop-e
invariant-loop-e l = Sofar l.origin l.edges l.sweep l.kind l.v l.from l.initial.best l.e l.best l.near
