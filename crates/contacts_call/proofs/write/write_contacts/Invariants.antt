use Prim.Native.Nat.{◌-◌}
use Rattle.ring.specs.Ring.{count}
use Rattle.pairs.specs.Pairs.{pair_count}
use Rattle.contacts_call.proofs.Writing.{Writing}
use Rattle.contacts_call.proofs.write.write_contacts.Given as goal

abbrev pub invariant-loop-j : goal.invariant-loop-j
invariant-loop-j l = Writing l.stationary l.orbiting l.tol l.initial.which l.initial.points l.which l.points l.n l.k

abbrev pub decreases-loop-j : goal.decreases-loop-j
decreases-loop-j l = pair_count (count l.stationary) (count l.orbiting) - l.k
