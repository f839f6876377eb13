use mathlib.Core.Path.{◌≡◌}
use Rattle.laws.specs.FirstBest.{over}
use Rattle.recovery.specs.Recovery.{closest_on, nearer_point}
use Rattle.recovery.proofs.row.Given as goal

abbrev pub invariant-loop-i : goal.invariant-loop-i
invariant-loop-i l = l.near ≡ over nearer_point (closest_on l.v l.ring) l.initial.near l.i
