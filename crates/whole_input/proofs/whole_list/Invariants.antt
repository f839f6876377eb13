use Rattle.ring.proofs.Mapped.{Written}
use Rattle.whole_input.specs.Whole.{whole_part}
use Rattle.whole_input.proofs.whole_list.Given as goal

abbrev pub invariant-loop-i : goal.invariant-loop-i
invariant-loop-i l = Written whole_part l.list l.initial.room l.room l.i
