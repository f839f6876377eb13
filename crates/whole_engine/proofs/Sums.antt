-- The loop of `area2`, over plain numbers: the two sums are those of the first i vertices, and no term is above 4 * 10^12.
-- Assumes nothing.
use Prim.Native.Nat.{ℕ, ◌+◌, ◌*◌, ◌≤◌, ◌<◌}
use mathlib.Core.Path.{◌≡◌, refl, ap}
use native.Mathlib.Omega.{arith}
use native.Mathlib.Nat.{mul-le-mul}
use native.Mathlib.Numerals.{add-one}
use lib.IntN.{ℤ}
use Rattle.ring.specs.Ring.{next_of}
use Rattle.shifted.specs.Shifted.{Small}
use Rattle.shifted.specs.declared.Spot.{Spot}
use Rattle.whole_floats.specs.Whole.{difference_of}
use Rattle.whole_rules.specs.Area.{left_to, right_to, whole_area2}

pub record Sums (at : ℕ → Spot) (n left right i : ℕ) : Type 0 where
  pub most : i ≤ n
  pub left_is : left ≡ left_to at n i
  pub right_is : right ≡ right_to at n i
  pub left_most : left ≤ i * 4000000000000
  pub right_most : right ≤ i * 4000000000000

pub start : (at : ℕ → Spot) (n : ℕ) → Sums at n 0 0 0
unfolding left_to right_to
start at n = record { most = omega arith; left_is = refl; right_is = refl; left_most = omega arith; right_most = omega arith }

left_step : (at : ℕ → Spot) (n k : ℕ) → left_to at n (k + 1) ≡ left_to at n k + (at k).x * (at (next_of k n)).y
unfolding left_to
left_step at n k = ap (left_to at n) (add-one k)

right_step : (at : ℕ → Spot) (n k : ℕ) → right_to at n (k + 1) ≡ right_to at n k + (at (next_of k n)).x * (at k).y
unfolding right_to
right_step at n k = ap (right_to at n) (add-one k)

-- a term
pub term_most : {a b : ℕ} → a ≤ 2000000 → b ≤ 2000000 → a * b ≤ 2000000 * 2000000
term_most h k = mul-le-mul h k

pub turn : (at : ℕ → Spot) (n : ℕ) {left right i : ℕ} {p q : Spot} → i < n → p ≡ at i → q ≡ at (next_of i n) → Small p → Small q
    → Sums at n left right i → Sums at n (left + p.x * q.y) (right + q.x * p.y) (i + 1)
turn at n {left} {right} {i} {p} {q} h e f a b s =
    let x = term_most a.width b.height in
    let y = term_most b.width a.height in
    record {
      most = omega arith;
      left_is = rw (s.left_is, e, f, left_step at n i);
      right_is = rw (s.right_is, e, f, right_step at n i);
      left_most = omega (arith, s.left_most);
      right_most = omega (arith, s.right_most);
    }

pub done : (at : ℕ → Spot) (n : ℕ) {left right i : ℕ} {z : ℤ} → n ≤ i → Sums at n left right i → z ≡ difference_of left right → z ≡ whole_area2 at n
unfolding whole_area2
done at n {left} {right} {i} h s e = let k : i ≡ n = omega (arith, s.most) in rw (e, s.left_is, s.right_is, k)
