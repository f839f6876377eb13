-- A move: each corner goes from one point to another, all at one pace. Definitions only.
use Rattle.std.specs.Prelude.{ℕ, zero, suc, ◌+◌, ◌*◌, ◌-◌, ◌≤◌, ◌<◌, ◌≡◌, List, [], ◌∷◌}
use Rattle.shifted.specs.declared.Spot.{Spot}
use Rattle.reasons.specs.Hull.{total, sum_x, sum_y}

-- where a corner starts and where it ends
pub record Leg : Type 0 where
  pub from : Spot
  pub to : Spot

-- the legs of so many corners from number k on, corner i going from a i to b i
unfoldable pub legs_from : (ℕ → Spot) → (ℕ → Spot) → ℕ → ℕ → List Leg
legs_from a b k zero = []
legs_from a b k (suc more) = record { from = a k; to = b k } ∷ legs_from a b (suc k) more

-- of n corners
abbrev pub legs : (ℕ → Spot) → (ℕ → Spot) → ℕ → List Leg
legs a b n = legs_from a b 0 n

-- both ends of every leg
unfoldable pub way : List Leg → List Spot
way [] = []
way (g ∷ gs) = g.from ∷ g.to ∷ way gs

-- the corners at the start, and at the end
unfoldable pub starts : List Leg → List Spot
starts [] = []
starts (g ∷ gs) = g.from ∷ starts gs

unfoldable pub ends : List Leg → List Spot
ends [] = []
ends (g ∷ gs) = g.to ∷ ends gs

-- at the time b / (a + b) a corner is at (a * start + b * end) / (a + b). Then (X, Y) over (a + b) * l lies in the hull of the
-- moved corners: it is their weighted mean, and l is the sum of the weights
pub record AtTime (gs : List Leg) (a b l X Y : ℕ) : Type 0 where
  pub weight : ℕ → ℕ
  pub all : total weight (starts gs) ≡ l
  pub across : a * sum_x weight (starts gs) + b * sum_x weight (ends gs) ≡ X
  pub upward : a * sum_y weight (starts gs) + b * sum_y weight (ends gs) ≡ Y

-- it lies inside the moved polygon: its four neighbours at some distance lie in that hull
pub record InsideAt (gs : List Leg) (a b l X Y : ℕ) : Type 0 where
  pub r : ℕ
  pub some : 0 < r
  pub east : AtTime gs a b l (X + r) Y
  pub west : AtTime gs a b l (X - r) Y
  pub north : AtTime gs a b l X (Y + r)
  pub south : AtTime gs a b l X (Y - r)
  pub across : r ≤ X
  pub upward : r ≤ Y
