use Rattle.reasons.proofs.First.{Rest}
use Rattle.reason_search.specs.Noted.{way_lines, helpful}
use Rattle.reason_search.proofs.first_unnoted.Given as goal

abbrev pub invariant-loop-c : goal.invariant-loop-c
invariant-loop-c l = Rest (helpful l.a l.b l.s l.t) (way_lines l.a) l.c
