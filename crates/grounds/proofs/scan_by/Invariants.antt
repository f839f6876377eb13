use Prim.Native.Nat.{◌-◌, ◌≤◌}
use Rattle.ring.specs.Ring.{count}
use Rattle.grounds.proofs.Passed.{Sofar}
use Rattle.grounds.proofs.scan_by.Given as goal

abbrev pub invariant-loop-v : goal.invariant-loop-v
invariant-loop-v l = Sofar l.vertices l.edges l.sweep l.kind l.fn.before l.v 0 (record { best = l.best; others = l.others; near = l.near; between = l.between; far = l.far })

abbrev pub invariant-loop-met : goal.invariant-loop-met
invariant-loop-met l =
    (l.e ≤ count l.edges)
    × Sofar l.vertices l.edges l.sweep l.kind l.fn.before l.v l.e (record { best = l.best; others = l.others; near = l.near; between = l.between; far = l.far })

abbrev pub decreases-loop-met : goal.decreases-loop-met
decreases-loop-met l = count l.edges - l.e
