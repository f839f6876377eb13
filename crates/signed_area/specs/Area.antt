-- The signed area of a ring, in the order of operations of `polygon_ops.rs` and `robust.rs`. Definitions only.
use Rattle.std.specs.Prelude.{ℕ, zero, suc, cond, List, ltb, Float}
use Rattle.scalar.specs.Float.{◌⊕◌, ◌⊖◌, ◌⊗◌, ◌⊘◌, f0, f2}
use Rattle.ring.specs.Ring.{count, point_at, next_of}
use Rattle.signed_area.specs.declared.Kahan.{Kahan}

-- x_i * y_j - x_j * y_i, j the vertex after i
unfoldable pub term_of : List Float → ℕ → Float
term_of r i =
    let p = point_at r i in
    let q = point_at r (next_of i (count r)) in
    p.x ⊗ q.y ⊖ q.x ⊗ p.y

-- the sum of the first k terms, from 0.0
unfoldable pub sum_to : List Float → ℕ → Float
sum_to r zero = f0
sum_to r (suc k) = sum_to r k ⊕ term_of r k

unfoldable pub area2_of : List Float → Float
area2_of r = sum_to r (count r)

-- ---- `robust.rs`

-- a compensated sum with one term more: c is what rounding has added
unfoldable pub added_of : Kahan → Float → Kahan
added_of k term =
    let y = term ⊖ k.c in
    let t = k.sum ⊕ y in
    record { sum = t; c = t ⊖ k.sum ⊖ y }

unfoldable pub kahan_to : List Float → ℕ → Kahan
kahan_to r zero = record { sum = f0; c = f0 }
kahan_to r (suc k) = added_of (kahan_to r k) (term_of r k)

unfoldable pub robust_of : List Float → Float
robust_of r = cond (ltb (count r) 3) f0 ((kahan_to r (count r)).sum ⊘ f2)
