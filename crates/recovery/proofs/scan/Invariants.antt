use mathlib.Core.Path.{◌≡◌}
use Rattle.ring.specs.Ring.{count}
use Rattle.laws.specs.FirstBest.{nest}
use Rattle.recovery.specs.Recovery.{closest_at, nearer_point, afar}
use Rattle.recovery.proofs.scan.Given as goal

abbrev pub invariant-loop-i : goal.invariant-loop-i
invariant-loop-i l = l.near ≡ nest nearer_point (closest_at l.stationary l.orbiting) (count l.stationary) afar l.i
