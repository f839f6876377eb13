use Rattle.simple_polygon.proofs.Row.{Row}
use Rattle.simple_polygon.proofs.clear_row.Given as goal

abbrev pub invariant-loop-j : goal.invariant-loop-j
invariant-loop-j l = Row l.ring l.i l.a1 l.a2 l.b1 l.d3 l.j
