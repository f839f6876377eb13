-- Points as a ring is lent: x, y alternating. Definitions only.
use Rattle.std.specs.Prelude.{ℕ, zero, suc, List, [], ◌∷◌, ◌++◌, Float}
use Rattle.plane.specs.declared.Point.{Point}

-- the first n points of a row
unfoldable pub points : (ℕ → Point) → ℕ → List Float
points f zero = []
points f (suc n) = points f n ++ ((f n).x ∷ (f n).y ∷ [])
