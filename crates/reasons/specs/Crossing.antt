-- How often the edges of a ring cross the ray that goes right from a point: as often upwards as downwards where the point lies
-- outside the ring. Corner j is at `s j`, and edge j goes from it to the next. Definitions only.
use Rattle.std.specs.Prelude.{ℕ, zero, suc, ◌+◌, ◌*◌, Bool, true, false, not, ◌&&◌, ltb}
use Rattle.shifted.specs.declared.Spot.{Spot}
use Rattle.reasons.specs.Sides.{left_of, right_of}

-- 1 for true
abbrev pub one : Bool → ℕ
one true = 1
one false = 0

-- the corner lies above the height Y / k
abbrev pub above : ℕ → ℕ → Spot → Bool
above k Y v = ltb Y (k * v.y)

-- 1 where the edge from s to t crosses upwards the ray that goes right from the point (X / k, Y / k): s is at its height or
-- below, t above, and the point is left of the edge
unfoldable pub crosses : ℕ → ℕ → ℕ → Spot → Spot → ℕ
crosses k X Y s t = one (not (above k Y s) && above k Y t && ltb (right_of s t k X Y) (left_of s t k X Y))

-- how many of the first n edges cross it upwards, and how many downwards
unfoldable pub ups : (ℕ → Spot) → ℕ → ℕ → ℕ → ℕ → ℕ
ups s zero k X Y = 0
ups s (suc j) k X Y = ups s j k X Y + crosses k X Y (s j) (s (suc j))

unfoldable pub downs : (ℕ → Spot) → ℕ → ℕ → ℕ → ℕ → ℕ
downs s zero k X Y = 0
downs s (suc j) k X Y = downs s j k X Y + crosses k X Y (s (suc j)) (s j)
