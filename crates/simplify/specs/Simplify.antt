-- A path without its collinear points, as `nfp_sliding.rs` simplifies it. Definitions only.
use Rattle.std.specs.Prelude.{ℕ, zero, suc, ◌+◌, ◌*◌, Bool, ◌||◌, cond, List, [], ◌∷◌, ◌++◌, get_or, ltb, Float}
use Rattle.std.specs.Float.{nan}
use Rattle.std.specs.Float.Ieee.{lt}
use Rattle.scalar.specs.Float.{f0}
use Rattle.plane.specs.Vector.{turn_of}
use Rattle.plane.specs.Segment.{to_segment_of}
use Rattle.ring.specs.Ring.{count, point_at, next_of, previous_vertex}

-- not collinear with its neighbours, or farther than the tolerance from their segment
unfoldable pub stays_of : List Float → Float → ℕ → Bool
stays_of r tol i =
    let a = point_at r (previous_vertex i (count r)) in
    let b = point_at r i in
    let c = point_at r (next_of i (count r)) in
    let t = turn_of a b c in
    lt f0 t || (lt t f0 || lt tol (to_segment_of b a c))

-- what stays of point i
unfoldable pub piece : List Float → Float → ℕ → List Float
piece r tol i = cond (stays_of r tol i) (get_or r (2 * i) nan ∷ get_or r (2 * i + 1) nan ∷ []) []

-- what stays of the first k points
unfoldable pub survivors : List Float → Float → ℕ → List Float
survivors r tol zero = []
survivors r tol (suc k) = survivors r tol k ++ piece r tol k

-- `simplify_polygon`: fewer than three points are kept as they are, and so is the whole list where fewer than three survive
unfoldable pub simplified : List Float → Float → List Float
simplified r tol =
    let s = survivors r tol (count r) in
    cond (ltb (count r) 3) r (cond (ltb (count s) 3) r s)
