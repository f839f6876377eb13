use Prim.Native.Nat.{◌/◌}
use lib.ListN.{length}
use Rattle.plane.specs.Orientation.{turn_number}
use Rattle.shifted.specs.Shifted.{spot_at}
use Rattle.whole_engine.proofs.Edges.{Row}
use Rattle.whole_engine.proofs.clear_row.Given as goal

abbrev pub invariant-loop-j : goal.invariant-loop-j
invariant-loop-j l = Row (spot_at l.list) (length l.list / 2) l.i l.a1 l.a2 l.b1 (turn_number l.d3) l.j
