-- Twice the area of a ring of whole coordinates: each term and each partial sum is exact, so that the float of the whole
-- number is the float sum, bit for bit but for a zero's sign. Assumes nothing.
use Prim.Native.Nat.{ℕ, zero, suc, ◌+◌, ◌*◌, ◌%◌, ◌≤◌, ◌<◌}
use native.Mathlib.Omega.{arith}
use native.Mathlib.Nat.{mul-le-mul, mod_self, mod-eq_of_lt}
use native.Mathlib.Numerals.{add-one}
use mathlib.Core.Path.{◌≡◌, refl, sym, ap}
use mathlib.Core.Bool.{true}
use mathlib.Core.List.{List}
use lib.IntN.{ℤ, pos, negsuc}
use lib.Dec.{T}
use lib.Ieee.{Float, binary64, of_bits, of_int, eq, fits}
use lib.Ieee.Fits.{of_int-fits, add-fits}
use lib.Ieee.Bits.{of_bits-fits}
use Rattle.scalar.specs.Float.{◌⊖◌, ◌⊗◌}
use Rattle.plane.specs.declared.Point.{Point}
use Rattle.ring.specs.Ring.{count, point_at, next_of}
use Rattle.signed_area.specs.Area.{term_of, sum_to, area2_of}
use Rattle.whole_floats.specs.Whole.{Whole, Difference}
use Rattle.whole_floats.proofs.Exact.{whole_same, sum, of_integer, difference_is}
use Rattle.whole_floats.proofs.Compare.{same_number, same_bits}
use Rattle.shifted.specs.declared.Spot.{Spot}
use Rattle.whole_rules.specs.Spots.{Placed, PlacedRing}
use Rattle.whole_rules.specs.Area.{left_to, right_to, WholeArea2, whole_area2}
use Rattle.whole_rules.proofs.Placed.{next_placed}
use Rattle.whole_rules.proofs.Segments.{times, sum_bound, less}

-- ---- a term

-- x * v - u * y for the coordinates (x, y) and (u, v), which stand a million higher in a and b
abbrev term_left : Spot → Spot → ℕ
term_left a b = a.x * b.y + 1000000 * (b.x + a.y)

abbrev term_right : Spot → Spot → ℕ
term_right a b = b.x * a.y + 1000000 * (a.x + b.y)

products : (ax ay bx bY k : ℕ)
    → ax * bY + k * k + (bx * k + k * ay) + (bx * ay + k * (ax + bY)) ≡ ax * bY + k * (bx + ay) + (ax * k + k * bY + (bx * ay + k * k))
products ax ay bx bY k = omega arith

term : (a b : Point) (A B : Spot) → Placed a A → Placed b B → Whole (a.x ⊗ b.y ⊖ b.x ⊗ a.y) (term_left A B) (term_right A B)
term a b A B P Q =
    let k : 1000000 ≤ 2000000 = omega arith in
    let l = times a.x b.y A.x 1000000 B.y 1000000 P.across Q.upward P.width k Q.height k in
    let r = times b.x a.y B.x 1000000 A.y 1000000 Q.across P.upward Q.width k P.height k in
    whole_same (a.x ⊗ b.y ⊖ b.x ⊗ a.y) (A.x * B.y + 1000000 * 1000000 + (B.x * 1000000 + 1000000 * A.y))
    (A.x * 1000000 + 1000000 * B.y + (B.x * A.y + 1000000 * 1000000)) (term_left A B) (term_right A B)
    (products A.x A.y B.x B.y 1000000)
    (less (a.x ⊗ b.y) (b.x ⊗ a.y) _ _ _ _ l r
    (sum_bound P.width Q.height k k) (sum_bound P.width k k Q.height)
    (sum_bound Q.width P.height k k) (sum_bound Q.width k k P.height))

-- ---- round the ring

unfoldable total : (ℕ → ℕ) → ℕ → ℕ
total f zero = 0
total f (suc k) = total f k + f k

-- the sum over the vertices after the first k, and that over the first k
passed : (f : ℕ → ℕ) (n k : ℕ) → k ≤ n → 0 < n → total (λ i. f (next_of i n)) k + f 0 ≡ total f k + f (k % n)
unfolding total
passed f n zero h N = let e : f (0 % n) ≡ f 0 = ap f (mod-eq_of_lt N) in omega arith
passed f n (suc k) h N =
    let e = passed f n k (omega arith) N in
    let i : f (k % n) ≡ f k = ap f (mod-eq_of_lt (omega arith)) in
    let j : f (suc k % n) ≡ f ((k + 1) % n) = ap (λ (z : ℕ). f (z % n)) (sym (add-one k)) in
    omega arith

-- each vertex is the one after another
round_the_ring : (f : ℕ → ℕ) (n : ℕ) → total (λ i. f (next_of i n)) n ≡ total f n
unfolding total
round_the_ring f zero = refl
round_the_ring f (suc n) =
    let e = passed f (suc n) (suc n) (omega arith) (omega arith) in
    let i : f (suc n % suc n) ≡ f 0 = ap f (mod_self (suc n)) in
    omega arith

-- an integer that is no difference is 0
none : (z : ℤ) (p q : ℕ) → Difference z p q → p ≡ q → z ≡ pos 0
none (pos n) p q h e = ap pos (omega arith)
none (negsuc n) p q h e = absurd (omega arith)

pub area_is : (at : ℕ → Spot) (n : ℕ) → WholeArea2 at n (whole_area2 at n)
unfolding whole_area2
area_is at n = difference_is (left_to at n n) (right_to at n n)

-- ---- the sum of up to 256 terms

module _ (r : List Float) (at : ℕ → Spot) (P : PlacedRing r at) (few : count r ≤ 256) where
  -- what k terms come to
  unfoldable left_sum : ℕ → ℕ
  left_sum k = left_to at (count r) k + 1000000 * (total (λ i. (at (next_of i (count r))).x) k + total (λ i. (at i).y) k)

  unfoldable right_sum : ℕ → ℕ
  right_sum k = right_to at (count r) k + 1000000 * (total (λ i. (at i).x) k + total (λ i. (at (next_of i (count r))).y) k)

  left_step : (k : ℕ) → left_sum (suc k) ≡ left_sum k + term_left (at k) (at (next_of k (count r)))
  unfolding left_sum left_to total
  left_step k = omega arith

  right_step : (k : ℕ) → right_sum (suc k) ≡ right_sum k + term_right (at k) (at (next_of k (count r)))
  unfolding right_sum right_to total
  right_step k = omega arith

  left_bound : (k : ℕ) → k ≤ count r → left_sum k ≤ k * 8000000000000
  unfolding left_sum left_to total
  left_bound zero h = omega arith
  left_bound (suc k) h =
      let s = left_bound k (omega arith) in
      let a = P k (omega arith) in
      let b = next_placed r at P k (omega arith) in
      let x = mul-le-mul a.width b.height in
      let y = a.height in
      let z = b.width in
      omega (arith, left_step k)

  right_bound : (k : ℕ) → k ≤ count r → right_sum k ≤ k * 8000000000000
  unfolding right_sum right_to total
  right_bound zero h = omega arith
  right_bound (suc k) h =
      let s = right_bound k (omega arith) in
      let a = P k (omega arith) in
      let b = next_placed r at P k (omega arith) in
      let x = mul-le-mul b.width a.height in
      let y = a.width in
      let z = b.height in
      omega (arith, right_step k)

  sums : (k : ℕ) → k ≤ count r → Whole (sum_to r k) (left_sum k) (right_sum k)
  unfolding sum_to term_of
  sums zero h = unfold of_bits left_sum right_sum left_to right_to total in refl
  sums (suc k) h =
      let n = count r in
      let i : k < n = omega arith in
      let l = left_bound (suc k) h in
      let m = right_bound (suc k) h in
      let e = left_step k in
      let f = right_step k in
      whole_same (sum_to r (suc k)) (left_sum k + term_left (at k) (at (next_of k n))) (right_sum k + term_right (at k) (at (next_of k n)))
      (left_sum (suc k)) (right_sum (suc k)) (omega arith)
      (sum (sum_to r k) (term_of r k) (left_sum k) (right_sum k) (term_left (at k) (at (next_of k n))) (term_right (at k) (at (next_of k n)))
      (sums k (omega arith)) (term (point_at r k) (point_at r (next_of k n)) (at k) (at (next_of k n)) (P k i) (next_placed r at P k i))
      (omega arith) (omega arith))

  -- the million cancels out
  pub area : Whole (area2_of r) (left_to at (count r) (count r)) (right_to at (count r) (count r))
  unfolding area2_of left_sum right_sum
  area =
      let n = count r in
      let x = round_the_ring (λ i. (at i).x) n in
      let y = round_the_ring (λ i. (at i).y) n in
      whole_same (area2_of r) (left_sum n) (right_sum n) (left_to at n n) (right_to at n n) (omega arith) (sums n (omega arith))

  -- ---- an integer that is twice the area

  integer : (z : ℤ) → WholeArea2 at (count r) z → Whole (of_int binary64 z) (left_to at (count r) (count r)) (right_to at (count r) (count r))
  unfolding left_sum right_sum
  integer z h =
      let n = count r in
      let l = left_bound n (omega arith) in
      let m = right_bound n (omega arith) in
      of_integer z (left_to at n n) (right_to at n n) h (omega arith) (omega arith)

  pub area_number : (z : ℤ) → WholeArea2 at (count r) z → eq (of_int binary64 z) (area2_of r) ≡ true
  area_number z h =
      let n = count r in
      same_number (of_int binary64 z) (area2_of r) (left_to at n n) (right_to at n n) (integer z h) area

  sum_fits : (k : ℕ) → T (fits binary64 (sum_to r k))
  unfolding sum_to
  sum_fits zero = of_bits-fits binary64 0
  sum_fits (suc k) = add-fits binary64 (sum_to r k) (term_of r k)

  pub area_bits : (z : ℤ) → WholeArea2 at (count r) z → (z ≡ pos 0 → ⊥) → of_int binary64 z ≡ area2_of r
  unfolding area2_of
  area_bits z h some =
      let n = count r in
      same_bits binary64 (of_int binary64 z) (area2_of r) (left_to at n n) (right_to at n n)
      (of_int-fits binary64 z) (sum_fits n) (integer z h) area (λ e. some (none z (left_to at n n) (right_to at n n) h e))
