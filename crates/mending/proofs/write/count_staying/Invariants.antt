use Rattle.mending.proofs.Counting.{Counting}
use Rattle.mending.proofs.write.count_staying.Given as goal

abbrev pub invariant-loop-i : goal.invariant-loop-i
invariant-loop-i l = Counting l.ring l.staying l.i
