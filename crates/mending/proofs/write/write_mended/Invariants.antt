use Rattle.mending.proofs.Writing.{Writing}
use Rattle.mending.proofs.write.write_mended.Given as goal

abbrev pub invariant-loop-i : goal.invariant-loop-i
invariant-loop-i l = Writing l.ring l.initial.room l.initial.dropped l.initial.points l.room l.dropped l.points l.staying l.gone l.i
