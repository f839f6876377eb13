-- A ring of whole coordinates is simple exactly if it is by whole numbers. Assumes nothing.
use Prim.Native.Nat.{ℕ, zero, suc, ◌+◌, ◌-◌, ◌≤◌, ◌<◌}
use native.Mathlib.Omega.{arith}
use mathlib.Core.Path.{◌≡◌, refl}
use mathlib.Core.Bool.{Bool}
use mathlib.Core.List.{List}
use lib.Ieee.{Float}
use Rattle.ring.specs.Each.{each}
use Rattle.ring.specs.Ring.{count, point_at, next_of}
use Rattle.simple_polygon.specs.Simple.{clear_pair, clear_row, is_simple}
use Rattle.shifted.specs.declared.Spot.{Spot}
use Rattle.whole_rules.specs.Spots.{PlacedRing}
use Rattle.whole_rules.specs.Simple.{whole_clear_pair, whole_clear_row, whole_simple}
use Rattle.whole_rules.proofs.Placed.{next_placed}
use Rattle.whole_rules.proofs.Segments.{intersect}

pub each_same : (p q : ℕ → Bool) (k n : ℕ) → ((i : ℕ) → k ≤ i → i < k + n → p i ≡ q i) → each p k n ≡ each q k n
unfolding each
each_same p q k zero h = refl
each_same p q k (suc n) h = rw (h k (omega arith) (omega arith), each_same p q (suc k) n (λ i l m. h i (omega arith) (omega arith)))

module _ (r : List Float) (at : ℕ → Spot) (P : PlacedRing r at) where
  pair : (i j : ℕ) → i < count r → j < count r → clear_pair r i j ≡ whole_clear_pair at (count r) i j
  unfolding clear_pair whole_clear_pair
  pair i j h k =
      let n = count r in
      rw (intersect (point_at r i) (point_at r (next_of i n)) (point_at r j) (point_at r (next_of j n))
      (at i) (at (next_of i n)) (at j) (at (next_of j n)) (P i h) (next_placed r at P i h) (P j k) (next_placed r at P j k))

  row : (i : ℕ) → i < count r → clear_row r i ≡ whole_clear_row at (count r) i
  unfolding clear_row whole_clear_row
  row i h = each_same (clear_pair r i) (whole_clear_pair at (count r) i) (i + 1) (count r - (i + 1)) (λ j l m. pair i j h (omega arith))

  pub simple : is_simple r ≡ whole_simple at (count r)
  unfolding is_simple whole_simple
  simple = rw (each_same (clear_row r) (whole_clear_row at (count r)) 0 (count r) (λ i l m. row i (omega arith)))
