-- Rings whose vertices stand in the same places answer alike. Assumes nothing.
use Prim.Native.Nat.{ℕ, zero, suc, ◌+◌, ◌-◌, ◌≤◌, ◌<◌}
use native.Mathlib.Omega.{arith}
use native.Mathlib.Nat.{mod-lt}
use mathlib.Core.Path.{◌≡◌, refl}
use Rattle.ring.specs.Ring.{next_of}
use Rattle.shifted.specs.declared.Spot.{Spot}
use Rattle.whole_rules.specs.Simple.{whole_clear_pair, whole_clear_row, whole_simple}
use Rattle.whole_rules.specs.Area.{left_to, right_to, whole_area2}
use Rattle.whole_rules.proofs.Simple.{each_same}

module _ (at by : ℕ → Spot) (n : ℕ) (e : (i : ℕ) → i < n → at i ≡ by i) where
  next_same : (i : ℕ) → i < n → at (next_of i n) ≡ by (next_of i n)
  next_same i h = e (next_of i n) (mod-lt (i + 1) (omega arith))

  pair_same : (i j : ℕ) → i < n → j < n → whole_clear_pair at n i j ≡ whole_clear_pair by n i j
  unfolding whole_clear_pair
  pair_same i j h k = rw (e i h, next_same i h, e j k, next_same j k)

  row_same : (i : ℕ) → i < n → whole_clear_row at n i ≡ whole_clear_row by n i
  unfolding whole_clear_row
  row_same i h = each_same (whole_clear_pair at n i) (whole_clear_pair by n i) (i + 1) (n - (i + 1)) (λ j l m. pair_same i j h (omega arith))

  pub simple_same : whole_simple at n ≡ whole_simple by n
  unfolding whole_simple
  simple_same = rw (each_same (whole_clear_row at n) (whole_clear_row by n) 0 n (λ i l m. row_same i (omega arith)))

  left_same : (k : ℕ) → k ≤ n → left_to at n k ≡ left_to by n k
  unfolding left_to
  left_same zero h = refl
  left_same (suc k) h = rw (left_same k (omega arith), e k (omega arith), next_same k (omega arith))

  right_same : (k : ℕ) → k ≤ n → right_to at n k ≡ right_to by n k
  unfolding right_to
  right_same zero h = refl
  right_same (suc k) h = rw (right_same k (omega arith), e k (omega arith), next_same k (omega arith))

  pub area_same : whole_area2 at n ≡ whole_area2 by n
  unfolding whole_area2
  area_same = rw (left_same n (omega arith), right_same n (omega arith))
