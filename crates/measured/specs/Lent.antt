-- The numbers, points and lists that the pieces lend. Definitions only.
use Rattle.std.specs.Prelude.{ℕ, false, List, [], ◌∷◌, map, Float}
use Rattle.std.specs.Float.{binary64}
use Rattle.std.specs.Float.Ieee.{round, neg}
use Rattle.plane.specs.Vector.{point}
use Rattle.plane.specs.declared.Point.{Point}
use Rattle.ring.specs.Moved.{moved_of}

-- the f64 nearest to a / b
abbrev pub ratio : ℕ → ℕ → Float
ratio a b = round binary64 false a b

abbrev pub real : ℕ → Float
real n = ratio n 1

abbrev pub negative : ℕ → Float
negative n = neg (real n)

abbrev pub at : ℕ → ℕ → Point
at a b = point (real a) (real b)

-- x, y alternating
abbrev pub reals : List ℕ → List Float
reals = map real

abbrev pub S : List Float
S = reals (0 ∷ 0 ∷ 4 ∷ 0 ∷ 4 ∷ 4 ∷ 0 ∷ 4 ∷ [])

abbrev pub Q : List Float
Q = reals (0 ∷ 0 ∷ 2 ∷ 0 ∷ 2 ∷ 2 ∷ 0 ∷ 2 ∷ [])

-- 1e-6
abbrev pub tolerance : Float
tolerance = ratio 1 1_000_000

-- where S and Q start, and Q moved there
abbrev pub start : Point
start = point (real 0) (negative 2)

abbrev pub there : List Float
there = moved_of Q start

-- Q moved by (-5,1)
abbrev pub beside : List Float
beside = moved_of Q (point (negative 5) (real 1))

-- (0,0),(1,0),(2,0)
abbrev pub line : List Float
line = reals (0 ∷ 0 ∷ 1 ∷ 0 ∷ 2 ∷ 0 ∷ [])

-- (0,0),(2,2),(2,0),(0,2)
abbrev pub eight : List Float
eight = reals (0 ∷ 0 ∷ 2 ∷ 2 ∷ 2 ∷ 0 ∷ 0 ∷ 2 ∷ [])
