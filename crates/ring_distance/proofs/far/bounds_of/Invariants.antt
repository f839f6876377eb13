use Prim.Native.Nat.{◌<◌}
use mathlib.Core.Path.{◌≡◌}
use Rattle.scalar.specs.Float.{f0}
use Rattle.plane.specs.Vector.{point}
use Rattle.ring.specs.Ring.{point_at}
use Rattle.frames.specs.Frame.{Inside}
use Rattle.ring_distance.specs.Far.{BoundsEdges}
use Rattle.ring_distance.proofs.far.bounds_of.Given as goal

abbrev pub invariant-loop-e : goal.invariant-loop-e
invariant-loop-e l =
    BoundsEdges (record { starts = l.starts; ways = l.ways }) l.ring l.from l.e
    × Inside l.ways (point f0 f0)
    × (l.e < l.to → l.a ≡ point_at l.ring l.e)
