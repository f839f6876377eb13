-- The reason that a ring and a way lie apart: a line for each edge of the ring, and their balance. Definitions only.
use Rattle.std.specs.Prelude.{ℕ, zero, suc, ◌+◌, ◌≤◌, ◌<◌, ◌≡◌, not, ◌&&◌, List, ltb}
use Rattle.shifted.specs.declared.Spot.{Spot}
use Rattle.reasons.specs.Sides.{left_of, right_of, AllLeft}
use Rattle.reasons.specs.Hull.{InHull}
use Rattle.reasons.specs.Crossing.{one}

-- the line from p to q parts the edge from s to t from the points vs: p and q are two, the points lie left of it or on it, and
-- both ends of the edge right of it or on it
pub record Parted (vs : List Spot) (s t p q : Spot) : Type 0 where
  pub two : p.x ≡ q.x → p.y ≡ q.y → ⊥
  pub left : AllLeft p q vs
  pub first : left_of p q 1 s.x s.y ≤ right_of p q 1 s.x s.y
  pub second : left_of p q 1 t.x t.y ≤ right_of p q 1 t.x t.y

-- 1 where the line from p to q rises and the edge from s to t comes up through the height m: s at m or below, t above
unfoldable pub mark : ℕ → Spot → Spot → Spot → Spot → ℕ
mark m p q s t = one (ltb p.y q.y && (not (ltb m s.y) && ltb m t.y))

-- how many of the first n edges come up through it, and how many go down, where their lines rise
unfoldable pub marks_up : ℕ → (ℕ → Spot) → (ℕ → Spot) → (ℕ → Spot) → ℕ → ℕ
marks_up m p q s zero = 0
marks_up m p q s (suc j) = marks_up m p q s j + mark m (p j) (q j) (s j) (s (suc j))

unfoldable pub marks_down : ℕ → (ℕ → Spot) → (ℕ → Spot) → (ℕ → Spot) → ℕ → ℕ
marks_down m p q s zero = 0
marks_down m p q s (suc j) = marks_down m p q s j + mark m (p j) (q j) (s (suc j)) (s j)

-- for each of the n edges of a closed ring a line that parts it from the points vs; low is one of them and none is lower
pub record AllParted (vs : List Spot) (low : Spot) (s p q : ℕ → Spot) (n : ℕ) : Type 0 where
  pub closed : s n ≡ s 0
  pub parted : (j : ℕ) → j < n → Parted vs (s j) (s (suc j)) (p j) (q j)
  pub among : InHull vs 1 low.x low.y
  pub lowest : AllLeft (record { x = 0; y = low.y }) (record { x = 1; y = low.y }) vs

-- and as many edges come up through its height as go down, where the lines rise
pub record Reason (vs : List Spot) (low : Spot) (s p q : ℕ → Spot) (n : ℕ) : Type 0 where
  pub lines : AllParted vs low s p q n
  pub balanced : marks_up low.y p q s n ≡ marks_down low.y p q s n
