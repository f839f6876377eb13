use mathlib.Core.Path.{◌≡◌}
use Rattle.ring.specs.Ring.{point_at}
use Rattle.laws.specs.FirstBest.{over}
use Rattle.start_position.specs.Start.{order_of}
use Rattle.start_position.proofs.vertex.Given as goal

abbrev pub invariant-loop-i : goal.invariant-loop-i
invariant-loop-i l = l.best ≡ over (order_of l.top) (point_at l.ring) (point_at l.ring 0) l.i
