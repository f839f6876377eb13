-- Twice the area of a ring of whole coordinates, vertex i being at `at i`: what counts for the left less what counts for
-- the right. The million in each coordinate cancels out round the ring. Definitions only.
use Rattle.std.specs.Prelude.{ℕ, zero, suc, ◌+◌, ◌*◌, ℤ}
use Rattle.ring.specs.Ring.{next_of}
use Rattle.whole_floats.specs.Whole.{Difference, difference_of}
use Rattle.shifted.specs.declared.Spot.{Spot}

-- the sum of x_i * y_j for the first k of n vertices, j the vertex after i
unfoldable pub left_to : (ℕ → Spot) → ℕ → ℕ → ℕ
left_to at n zero = 0
left_to at n (suc k) = left_to at n k + (at k).x * (at (next_of k n)).y

-- the sum of x_j * y_i
unfoldable pub right_to : (ℕ → Spot) → ℕ → ℕ → ℕ
right_to at n zero = 0
right_to at n (suc k) = right_to at n k + (at (next_of k n)).x * (at k).y

-- the integer z is twice the area of n vertices
abbrev pub WholeArea2 : (ℕ → Spot) → ℕ → ℤ → Type 0
WholeArea2 at n z = Difference z (left_to at n n) (right_to at n n)

-- that integer
unfoldable pub whole_area2 : (ℕ → Spot) → ℕ → ℤ
whole_area2 at n = difference_of (left_to at n n) (right_to at n n)
