use Rattle.reason_search.proofs.Flags.{Flags}
use Rattle.reason_search.proofs.note.Given as goal

abbrev pub invariant-loop-c : goal.invariant-loop-c
invariant-loop-c l = Flags l.a l.b l.initial.flags l.flags l.c
