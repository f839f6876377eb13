-- Whether a line parts an edge from a way, as it is computed. The way's corner i is at `a i` at the start and at `b i` at the
-- end. Definitions only.
use Rattle.std.specs.Prelude.{ℕ, ◌+◌, ◌*◌, Bool, not, ◌&&◌, leb, eqb}
use Rattle.ring.specs.Each.{each}
use Rattle.shifted.specs.declared.Spot.{Spot}

-- what counts for the left of the line from p to q, and what counts for the right
abbrev pub left_sum : Spot → Spot → Spot → ℕ
left_sum p q v = q.x * v.y + p.y * v.x + p.x * q.y

abbrev pub right_sum : Spot → Spot → Spot → ℕ
right_sum p q v = p.x * v.y + q.y * v.x + q.x * p.y

-- v is left of the line or on it, and right of it or on it
unfoldable pub left_on : Spot → Spot → Spot → Bool
left_on p q v = leb (right_sum p q v) (left_sum p q v)

unfoldable pub right_on : Spot → Spot → Spot → Bool
right_on p q v = leb (left_sum p q v) (right_sum p q v)

-- the whole way of n corners is left of it or on it
unfoldable pub way_left : (ℕ → Spot) → (ℕ → Spot) → ℕ → Spot → Spot → Bool
way_left a b n p q = each (λ i. left_on p q (a i) && left_on p q (b i)) 0 n

-- the edge from s to t is right of it or on it
unfoldable pub edge_right : Spot → Spot → Spot → Spot → Bool
edge_right p q s t = right_on p q s && right_on p q t

-- p and q are two points
unfoldable pub differ : Spot → Spot → Bool
differ p q = not (eqb p.x q.x && eqb p.y q.y)

-- the line parts the edge from the way
unfoldable pub parts : (ℕ → Spot) → (ℕ → Spot) → ℕ → Spot → Spot → Spot → Spot → Bool
parts a b n s t p q = differ p q && (way_left a b n p q && edge_right p q s t)
