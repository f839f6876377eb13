-- The lines that are tried anew for an edge, in their order: the four sides of the way's box, the way of each of its corners, its
-- edges at the start and at the end, and last the edge's own line. All coordinates are moved up: 1000000 stands for 0.
-- Definitions only.
use Rattle.std.specs.Prelude.{ℕ, zero, suc, ◌+◌, ◌*◌, ◌-◌, ◌/◌, ◌%◌, min, max, cond, ltb}
use Rattle.ring.specs.Ring.{next_of}
use Rattle.shifted.specs.declared.Spot.{Spot}
use Rattle.reason_search.specs.declared.Line.{Line}

abbrev pub line : Spot → Spot → Line
line u v = record { p = u; q = v }

abbrev pub spot : ℕ → ℕ → Spot
spot x y = record { x = x; y = y }

-- ---- the box of a way, whose corner i is at `a i` at the start and at `b i` at the end

-- the lower left and the upper right corner of the box of two points
abbrev pub lesser : Spot → Spot → Spot
lesser u v = spot (min u.x v.x) (min u.y v.y)

abbrev pub greater : Spot → Spot → Spot
greater u v = spot (max u.x v.x) (max u.y v.y)

-- of n corners, each at the start and then at the end
unfoldable pub box_low : (ℕ → Spot) → (ℕ → Spot) → ℕ → Spot
box_low a b zero = a 0
box_low a b (suc k) = lesser (lesser (box_low a b k) (a k)) (b k)

unfoldable pub box_high : (ℕ → Spot) → (ℕ → Spot) → ℕ → Spot
box_high a b zero = a 0
box_high a b (suc k) = greater (greater (box_high a b k) (a k)) (b k)

-- its sides, each with the box on its left: right `X 0 X 1`, top `1 Y 0 Y`, left `x 1 x 0`, bottom `0 y 1 y`
unfoldable pub box_line : ℕ → Spot → Spot → Line
box_line zero low high = line (spot high.x 1000000) (spot high.x 1000001)
box_line (suc zero) low high = line (spot 1000001 high.y) (spot 1000000 high.y)
box_line (suc (suc zero)) low high = line (spot low.x 1000001) (spot low.x 1000000)
box_line (suc (suc (suc c))) low high = line (spot 1000000 low.y) (spot 1000001 low.y)

-- ---- its other lines

-- the line from u to v, and then the same turned round
unfoldable pub either_way : ℕ → Spot → Spot → Line
either_way zero u v = line u v
either_way (suc c) u v = line v u

-- line c of n corners: first two for the way of each corner, then four for each edge, two where it starts and two where it ends
unfoldable pub way_line : (ℕ → Spot) → (ℕ → Spot) → ℕ → ℕ → Line
way_line a b n c =
    let e = c - 2 * n in
    let i = e / 4 in
    let k = next_of i n in
    cond (ltb c (2 * n)) (either_way (c % 2) (a (c / 2)) (b (c / 2)))
    (cond (ltb (e % 4) 2) (either_way (e % 2) (a i) (a k)) (either_way (e % 2) (b i) (b k)))

-- ---- line k for the edge from s to t

unfoldable pub line_of : (ℕ → Spot) → (ℕ → Spot) → ℕ → Spot → Spot → ℕ → Line
line_of a b n s t k =
    cond (ltb k 4) (box_line k (box_low a b n) (box_high a b n))
    (cond (ltb k (4 + 6 * n)) (way_line a b n (k - 4)) (either_way (k - (4 + 6 * n)) s t))
