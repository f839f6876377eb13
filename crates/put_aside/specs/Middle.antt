-- The middle of the corners of a disc: of their x, of their y, and of how far they lie across a move. All coordinates are moved
-- up by a million. Definitions only.
use Rattle.std.specs.Prelude.{ℕ, zero, suc, ◌+◌, ◌*◌, ◌-◌, ◌/◌, min, max, List, length}
use Rattle.shifted.specs.Shifted.{spot_at}
use Rattle.shifted.specs.declared.Spot.{Spot}

-- the least and the greatest of n numbers
unfoldable pub least : (ℕ → ℕ) → ℕ → ℕ
least f zero = f 0
least f (suc k) = min (least f k) (f k)

unfoldable pub greatest : (ℕ → ℕ) → ℕ → ℕ
greatest f zero = f 0
greatest f (suc k) = max (greatest f k) (f k)

-- the middle of the two, rounded down
abbrev pub middle : (ℕ → ℕ) → ℕ → ℕ
middle f n = (least f n + greatest f n) / 2

-- With (dx, dy) the move from `from` to `to`, and n = (-dy, dx), which lies across it to the left: n·v and 8,000,000,000,000.
-- No more than that is taken away on the grid, so nothing is taken from less. What is added to n·v of every corner alike, as
-- this number and what the million makes by which the coordinates are moved up, is added to the middle too: it changes nothing
-- of which corners lie above the middle, below it and at it.
abbrev pub across_of : Spot → Spot → Spot → ℕ
across_of from to v = to.x * v.y + from.y * v.x + 8000000000000 - (from.x * v.y + to.y * v.x)

-- what a middle is taken of: 0 x, 1 y, 2 how far across
unfoldable pub level : ℕ → Spot → Spot → Spot → ℕ
level zero from to v = v.x
level (suc zero) from to v = v.y
level (suc (suc axis)) from to v = across_of from to v

-- its middle, of the corners of a list x, y, x, y ..
abbrev pub middle_of : ℕ → List ℕ → Spot → Spot → ℕ
middle_of axis list from to = middle (λ i. level axis from to (spot_at list i)) (length list / 2)
