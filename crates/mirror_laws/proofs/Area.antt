-- `signed_area2` of a ring with each x negated, its order kept, changes only its sign. Of a mirrored ring, whose order is reversed too, it
-- need not be the same number: docs/DIFFERENCES.md. Assumes nothing.
use Prim.Native.Nat.{ℕ, zero, suc, ◌+◌, ◌*◌}
use native.Mathlib.Omega.{arith}
use mathlib.Core.Path.{◌≡◌, refl, ap, ap₂}
use mathlib.Core.Bool.{Bool, true, false, cond}
use mathlib.Core.List.{List, [], ◌∷◌}
use lib.ListN.{length, get_or}
use lib.Ieee.{Float, nan, neg, of_bits}
use Rattle.plane.specs.Vector.{point}
use Rattle.ring.specs.Ring.{count, point_at, next_of}
use Rattle.refusals.specs.Refusals.{passed}
use Rattle.refusals.specs.Bounds.{every, coordinates}
use Rattle.refusals.specs.Rows.{of_ring}
use Rattle.refusals.specs.Answers.{answers, refuses}
use Rattle.signed_area.specs.Area.{term_of, sum_to, area2_of}
use Rattle.signed_area.specs.Calls.{area2_call}
use Rattle.mirror_laws.specs.Mirrored.{mirrored_point, Opposite, turned, zeros, OppositeAnswers, negated_x}
use Rattle.mirror_laws.proofs.Twice.{coordinate_neg}
use Rattle.mirror_laws.proofs.Opposite.{add_opposite, sub_opposite, mul_opposite}

-- ---- the ring

length_negated : (r : List Float) → length (negated_x r) ≡ length r
unfolding negated_x
length_negated [] = refl
length_negated (x ∷ []) = refl
length_negated (x ∷ y ∷ r) = ap (λ (k : ℕ). suc (suc k)) (length_negated r)

coordinates_negated : (r : List Float) → coordinates (negated_x r) ≡ coordinates r
unfolding negated_x every
coordinates_negated [] = refl
coordinates_negated (x ∷ []) = rw (coordinate_neg x) refl
coordinates_negated (x ∷ y ∷ r) = rw (coordinate_neg x, coordinates_negated r) refl

x_negated : (r : List Float) (i : ℕ) → get_or (negated_x r) (2 * i) nan ≡ neg (get_or r (2 * i) nan)
unfolding negated_x neg
x_negated [] i = refl
x_negated (x ∷ []) zero = refl
x_negated (x ∷ []) (suc i) = let e : 2 * suc i ≡ suc (suc (2 * i)) = omega arith in rw e refl
x_negated (x ∷ y ∷ r) zero = refl
x_negated (x ∷ y ∷ r) (suc i) = let e : 2 * suc i ≡ suc (suc (2 * i)) = omega arith in rw e (x_negated r i)

y_negated : (r : List Float) (i : ℕ) → get_or (negated_x r) (2 * i + 1) nan ≡ get_or r (2 * i + 1) nan
unfolding negated_x
y_negated [] i = refl
y_negated (x ∷ []) zero = refl
y_negated (x ∷ []) (suc i) = let e : 2 * suc i + 1 ≡ suc (suc (2 * i + 1)) = omega arith in rw e refl
y_negated (x ∷ y ∷ r) zero = refl
y_negated (x ∷ y ∷ r) (suc i) = let e : 2 * suc i + 1 ≡ suc (suc (2 * i + 1)) = omega arith in rw e (y_negated r i)

point_negated : (r : List Float) (i : ℕ) → point_at (negated_x r) i ≡ mirrored_point (point_at r i)
unfolding point_at
point_negated r i = ap₂ point (x_negated r i) (y_negated r i)

-- ---- the sum

term_opposite : (r : List Float) (i : ℕ) → Opposite (term_of r i) (term_of (negated_x r) i)
unfolding term_of
term_opposite r i =
    let p = point_at r i in
    let q = point_at r (next_of i (count r)) in
    rw (length_negated r, point_negated r i, point_negated r (next_of i (count r)))
    (sub_opposite (mul_opposite q.y (turned p.x)) (mul_opposite p.y (turned q.x)))

sum_opposite : (r : List Float) (k : ℕ) → Opposite (sum_to r k) (sum_to (negated_x r) k)
unfolding sum_to
sum_opposite r zero = unfold of_bits in zeros false false
sum_opposite r (suc k) = add_opposite (sum_opposite r k) (term_opposite r k)

pub area_opposite : (r : List Float) → Opposite (area2_of r) (area2_of (negated_x r))
unfolding area2_of
area_opposite r = rw (length_negated r) (sum_opposite r (count r))

-- ---- the call

ring_negated : (r : List Float) → of_ring (negated_x r) ≡ of_ring r
unfolding of_ring
ring_negated r = rw (length_negated r, coordinates_negated r) refl

-- the ring is refused alike, and the area of a ring that is not changes only its sign
pub area_call_opposite : (r : List Float) → OppositeAnswers (area2_call r) (area2_call (negated_x r))
area_call_opposite r = rw (ring_negated r) (by (passed (of_ring r)))
  where
    by : (b : Bool) → OppositeAnswers (cond b (answers (area2_of r)) (refuses (of_ring r)))
        (cond b (answers (area2_of (negated_x r))) (refuses (of_ring r)))
    by true = area_opposite r
    by false = refl
