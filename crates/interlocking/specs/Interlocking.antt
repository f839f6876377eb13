-- A position toward a concave vertex, in the order of operations of `nfp_sliding.rs`. Definitions only.
use Rattle.std.specs.Prelude.{ℕ, zero, suc, Bool, not, ◌&&◌, cond, List, Option, Some, None, Float}
use Rattle.std.specs.Float.Ieee.{lt}
use Rattle.scalar.specs.Float.{◌⊖◌, ◌⊗◌, f0, f0·5, f1e_6}
use Rattle.scalar.specs.Scalar.{abs_of, smaller_of}
use Rattle.plane.specs.Vector.{minus_of, dot_of, normalize_of, turn_of, root, ahead_of}
use Rattle.plane.specs.declared.Point.{Point}
use Rattle.ring.specs.Ring.{count, point_at, next_of, previous_vertex}
use Rattle.ring.specs.Moved.{moved_of}
use Rattle.overlap.specs.Extent.{box_of}
use Rattle.overlap.specs.Overlap.{edge_of, overlap_of}

-- the turn at vertex i is clockwise
unfoldable pub concave_of : List Float → ℕ → Bool
concave_of r i = lt (turn_of (point_at r (previous_vertex i (count r))) (point_at r i) (point_at r (next_of i (count r)))) f0

-- sqrt(|dot|) of the edges before and after vertex i
unfoldable pub opening_of : List Float → ℕ → Float
opening_of r i = root (abs_of (dot_of (edge_of r (previous_vertex i (count r))) (edge_of r i)))

-- f0·5 of the smaller side of the bounding box
unfoldable pub least_of : List Float → Float
least_of r =
    let b = box_of r in
    smaller_of (b.x.max ⊖ b.x.min) (b.y.max ⊖ b.y.min) ⊗ f0·5

-- o moved there does not overlap s
unfoldable pub fits_of : List Float → List Float → Point → Bool
fits_of s o at = not (overlap_of s (moved_of o at) f1e_6)

-- one tolerance from the current position toward vertex i, where o fits there
unfoldable pub try_of : List Float → List Float → Point → Float → ℕ → Option Point
try_of s o current tol i =
    let at = ahead_of current (normalize_of (minus_of (point_at s i) current)) tol in
    cond (fits_of s o at) (Some at) None

-- the same where vertex i is concave and opens wider than least
unfoldable pub candidate_of : List Float → List Float → Point → Float → Float → ℕ → Option Point
candidate_of s o current tol least i =
    cond (concave_of s i && lt least (opening_of s i)) (try_of s o current tol i) None

unfoldable pub or_else : Option Point → Option Point → Option Point
or_else None b = b
or_else (Some p) b = Some p

-- the first of so many, from k on, that is something
unfoldable pub first_found : (ℕ → Option Point) → ℕ → ℕ → Option Point
first_found f k zero = None
first_found f k (suc more) = or_else (f k) (first_found f (suc k) more)

-- `detect_interlocking_opportunity`: the first position that a vertex gives
unfoldable pub interlock_of : List Float → List Float → Point → Float → Option Point
interlock_of s o current tol = first_found (candidate_of s o current tol (least_of o)) 0 (count s)
