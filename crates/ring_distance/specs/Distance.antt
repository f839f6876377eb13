-- The distance of two rings, in the order of `polygon_ops.rs`. Definitions only.
use Rattle.std.specs.Prelude.{ℕ, zero, suc, false, List, Float}
use Rattle.std.specs.Float.{inf}
use Rattle.scalar.specs.Scalar.{smaller_of}
use Rattle.plane.specs.Segment.{segment_distance_of}
use Rattle.plane.specs.declared.Point.{Point}
use Rattle.ring.specs.Ring.{count, point_at, next_of}

unfoldable pub edge_distance : Point → List Float → ℕ → Float
edge_distance p r i = segment_distance_of p (point_at r i) (point_at r (next_of i (count r)))

-- the smallest of what was found before and the distances from the first k edges
unfoldable pub to_ring : Point → List Float → Float → ℕ → Float
to_ring p r before zero = before
to_ring p r before (suc k) = smaller_of (to_ring p r before k) (edge_distance p r k)

-- the first k vertices of one ring against the edges of the other, from +infinity
unfoldable pub one_way : List Float → List Float → ℕ → Float
one_way a b zero = inf false
one_way a b (suc k) = to_ring (point_at a k) b (one_way a b k) (count b)

-- `ring_distance`
unfoldable pub ring_distance_of : List Float → List Float → Float
ring_distance_of a b = smaller_of (one_way a b (count a)) (one_way b a (count b))
