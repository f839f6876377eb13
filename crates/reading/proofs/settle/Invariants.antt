use Prim.Native.Nat.{◌+◌, ◌*◌, ◌-◌}
use lib.ListN.{length}
use Rattle.reading.specs.Lent.{ring_of}
use Rattle.reading.specs.Starts.{along}
use Rattle.reading.proofs.Pushing.{Open}
use Rattle.reading.proofs.settle.Given as goal

abbrev pub invariant-loop-s : goal.invariant-loop-s
invariant-loop-s l = Open (along (ring_of l.ring) l.back) (length (ring_of l.ring)) l.s.first l.s.second l.s.alike

abbrev pub decreases-loop-s : goal.decreases-loop-s
decreases-loop-s l = 3 * length l.ring - (2 * l.s.first + 2 * l.s.second + l.s.alike)
