-- The lowest corner of a way, whose corner i is at `a i` at the start and at `b i` at the end. Definitions only.
use Rattle.std.specs.Prelude.{ℕ, zero, suc, cond, ltb}
use Rattle.shifted.specs.declared.Spot.{Spot}

-- the lower of two points, the first where they are level
unfoldable pub lower : Spot → Spot → Spot
lower s t = cond (ltb t.y s.y) t s

-- the first of the lowest of n corners, each at the start and then at the end
unfoldable pub low_spot : (ℕ → Spot) → (ℕ → Spot) → ℕ → Spot
low_spot a b zero = a 0
low_spot a b (suc k) = lower (lower (low_spot a b k) (a k)) (b k)

-- its height
abbrev pub lowest : (ℕ → Spot) → (ℕ → Spot) → ℕ → ℕ
lowest a b n = (low_spot a b n).y
