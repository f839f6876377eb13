use mathlib.Core.Path.{◌≡◌}
use Rattle.ring_distance.specs.Squared.{squared_way}
use Rattle.ring_distance.proofs.way_by.Given as goal

abbrev pub invariant-loop-i : goal.invariant-loop-i
invariant-loop-i l = l.least ≡ squared_way l.points l.ring l.before l.i
