-- Contact recovered, in the order of operations of `nfp_sliding.rs`. Definitions only.
use Rattle.std.specs.Prelude.{ℕ, Bool, false, cond, List, Option, Some, None, Float}
use Rattle.std.specs.Float.{inf}
use Rattle.std.specs.Float.Ieee.{lt}
use Rattle.scalar.specs.Float.{◌⊖◌, ◌⊗◌, f0·5}
use Rattle.plane.specs.Vector.{minus_of, distance_of, normalize_of, ahead_of}
use Rattle.plane.specs.Segment.{project_of, along_of}
use Rattle.plane.specs.declared.Point.{Point}
use Rattle.ring.specs.Ring.{count, point_at, next_of}
use Rattle.laws.specs.FirstBest.{nest}
use Rattle.centroid.specs.Centroid.{centroid_of}
use Rattle.recovery.specs.declared.Closest.{Closest}

-- the point of the edge i that is nearest to v
unfoldable pub closest_on : Point → List Float → ℕ → Closest
closest_on v r i =
    let a = point_at r i in
    let b = point_at r (next_of i (count r)) in
    let p = along_of a b (project_of v a b) in
    record { distance = distance_of v p; target = Some p }

-- that of vertex k of the orbiting polygon and edge i of the stationary one
abbrev pub closest_at : List Float → List Float → ℕ → ℕ → Closest
closest_at s o k i = closest_on (point_at o k) s i

abbrev pub nearer_point : Closest → Closest → Bool
nearer_point new best = lt new.distance best.distance

-- nothing found
abbrev pub afar : Closest
afar = record { distance = inf false; target = None }

-- the vertices of the orbiting polygon in turn, each against every edge of the stationary one
unfoldable pub closest_of : List Float → List Float → Closest
closest_of s o = nest nearer_point (closest_at s o) (count s) afar (count o)

-- so far in the direction from the orbiting polygon's centroid to a target
unfoldable pub toward_of : Point → List Float → Point → Float → Point
toward_of target o current far = ahead_of current (normalize_of (minus_of target (centroid_of o))) far

-- the move to what was found, where it is farther than the tolerance
unfoldable pub move_to : Option Point → Float → List Float → Point → Float → Option Point
move_to None d o current tol = None
move_to (Some p) d o current tol = cond (lt tol d) (Some (toward_of p o current (d ⊖ tol ⊗ f0·5))) None

-- `recover_contact`
unfoldable pub recover_of : List Float → List Float → Point → Float → Option Point
recover_of s o current tol = let c = closest_of s o in move_to c.target c.distance o current tol
