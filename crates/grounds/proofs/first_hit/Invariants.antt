use Rattle.collision.specs.Chained.{MissesTo}
use Rattle.grounds.proofs.first_hit.Given as goal

abbrev pub invariant-loop-e : goal.invariant-loop-e
invariant-loop-e l = MissesTo l.edges l.sweep.dir l.sweep.tolerance l.origin l.from l.e
