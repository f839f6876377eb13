-- What lies in the hull of points, and what lies inside it. Definitions only.
use Rattle.std.specs.Prelude.{ℕ, suc, ◌+◌, ◌*◌, ◌-◌, ◌≤◌, ◌<◌, ◌≡◌, List, [], ◌∷◌}
use Rattle.shifted.specs.declared.Spot.{Spot}

-- each point has a weight: the sum of the weights
unfoldable pub total : (ℕ → ℕ) → List Spot → ℕ
total w [] = 0
total w (v ∷ vs) = w 0 + total (λ i. w (suc i)) vs

-- the sums of the weighted coordinates
unfoldable pub sum_x : (ℕ → ℕ) → List Spot → ℕ
sum_x w [] = 0
sum_x w (v ∷ vs) = w 0 * v.x + sum_x (λ i. w (suc i)) vs

unfoldable pub sum_y : (ℕ → ℕ) → List Spot → ℕ
sum_y w [] = 0
sum_y w (v ∷ vs) = w 0 * v.y + sum_y (λ i. w (suc i)) vs

-- (X / k, Y / k) lies in the hull of the points: it is their weighted mean
pub record InHull (vs : List Spot) (k X Y : ℕ) : Type 0 where
  pub weight : ℕ → ℕ
  pub all : total weight vs ≡ k
  pub across : sum_x weight vs ≡ X
  pub upward : sum_y weight vs ≡ Y

-- it lies inside the hull: its four neighbours at some distance r / k, right, left, above and below, lie in it
pub record Inside (vs : List Spot) (k X Y : ℕ) : Type 0 where
  pub r : ℕ
  pub some : 0 < r
  pub east : InHull vs k (X + r) Y
  pub west : InHull vs k (X - r) Y
  pub north : InHull vs k X (Y + r)
  pub south : InHull vs k X (Y - r)
  pub across : r ≤ X
  pub upward : r ≤ Y
