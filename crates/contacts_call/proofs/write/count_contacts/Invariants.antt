use Prim.Native.Nat.{◌-◌}
use Rattle.ring.specs.Ring.{count}
use Rattle.pairs.specs.Pairs.{pair_count}
use Rattle.contacts_call.proofs.Counting.{Counting}
use Rattle.contacts_call.proofs.write.count_contacts.Given as goal

abbrev pub invariant-loop-j : goal.invariant-loop-j
invariant-loop-j l = Counting l.stationary l.orbiting l.tol l.n l.k

abbrev pub decreases-loop-j : goal.decreases-loop-j
decreases-loop-j l = pair_count (count l.stationary) (count l.orbiting) - l.k
