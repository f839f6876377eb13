use Rattle.mending.proofs.Trailing.{Trail}
use Rattle.mending.proofs.trail.Given as goal

abbrev pub invariant-loop-end : goal.invariant-loop-end
invariant-loop-end l = Trail l.ring l.end

abbrev pub decreases-loop-end : goal.decreases-loop-end
decreases-loop-end l = l.end
