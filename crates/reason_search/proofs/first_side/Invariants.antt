use Rattle.reasons.proofs.First.{Rest}
use Rattle.reason_search.specs.Noted.{beside_box}
use Rattle.reason_search.proofs.first_side.Given as goal

abbrev pub invariant-loop-c : goal.invariant-loop-c
invariant-loop-c l = Rest (beside_box l.x.low l.x.high l.s l.t) 4 l.c
