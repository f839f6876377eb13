-- The two sides of a line through two points. Coordinates are natural numbers, each whole one plus a million. A point (X, Y) of
-- the picture enlarged k times stands for the point (X / k, Y / k). Definitions only.
use Rattle.std.specs.Prelude.{ℕ, ◌+◌, ◌*◌, ◌≤◌, List, [], ◌∷◌}
use Rattle.shifted.specs.declared.Spot.{Spot}

-- twice the area of p, q and (X / k, Y / k), k times, is what counts for the left less what counts for the right
abbrev pub left_of : Spot → Spot → ℕ → ℕ → ℕ → ℕ
left_of p q k X Y = q.x * Y + p.y * X + k * (p.x * q.y)

abbrev pub right_of : Spot → Spot → ℕ → ℕ → ℕ → ℕ
right_of p q k X Y = p.x * Y + q.y * X + k * (q.x * p.y)

-- every point lies left of the line from p to q, or on it
abbrev pub AllLeft : Spot → Spot → List Spot → Type 0
AllLeft p q [] = Unit
AllLeft p q (v ∷ vs) = (right_of p q 1 v.x v.y ≤ left_of p q 1 v.x v.y) × AllLeft p q vs
