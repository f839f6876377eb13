-- A ring mirrored, and a ring opened. Definitions only.
use Rattle.std.specs.Prelude.{ℕ, ◌*◌, ◌-◌, ◌&&◌, cond, List, [], ◌∷◌, ◌++◌, take, ltb, Float}
use Rattle.std.specs.Float.Ieee.{neg}
use Rattle.plane.specs.Vector.{same_of}
use Rattle.ring.specs.Ring.{count, point_at}

-- `mirror_polygon`: the vertices in reverse order, each x negated
unfoldable pub mirrored : List Float → List Float
mirrored [] = []
mirrored (x ∷ []) = []
mirrored (x ∷ y ∷ r) = mirrored r ++ (neg x ∷ y ∷ [])

-- one vertex fewer where there are more than three and the first equals the last
unfoldable pub open_count : List Float → ℕ
open_count r = let n = count r in cond (ltb 3 n && same_of (point_at r 0) (point_at r (n - 1))) (n - 1) n

-- `open_ring`
abbrev pub opened : List Float → List Float
opened r = take (2 * open_count r) r
