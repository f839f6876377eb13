use Prim.Native.Nat.{◌/◌}
use lib.ListN.{length}
use Rattle.shifted.specs.Shifted.{spot_at}
use Rattle.whole_engine.proofs.Sums.{Sums}
use Rattle.whole_engine.proofs.area2.Given as goal

abbrev pub invariant-loop-i : goal.invariant-loop-i
invariant-loop-i l = Sums (spot_at l.list) (length l.list / 2) l.left l.right l.i
