use Prim.Native.Nat.{◌/◌}
use lib.ListN.{length}
use Rattle.shifted.specs.Shifted.{spot_at}
use Rattle.reason_check.proofs.Way.{Rest}
use Rattle.reason_check.proofs.way_left.Given as goal

abbrev pub invariant-loop-i : goal.invariant-loop-i
invariant-loop-i l = Rest (spot_at l.a) (spot_at l.b) (length l.a / 2) l.p l.q l.i
