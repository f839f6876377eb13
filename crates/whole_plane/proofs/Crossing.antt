-- Two segments whose ends lie on different sides of each other cross: the turns are the weights of the point where they do.
-- Assumes nothing.
use Prim.Native.Nat.{ℕ, ◌+◌, ◌-◌, ◌*◌, ◌<◌}
use native.Mathlib.Omega.{arith}
use mathlib.Core.Path.{◌≡◌, sym, ap}
use mathlib.Core.Logic.{inl, inr}
use Rattle.shifted.specs.declared.Spot.{Spot}
use Rattle.whole_rules.specs.Segments.{left_of, right_of}
use Rattle.whole_plane.proofs.Signs.{Opposite}
use Rattle.whole_plane.proofs.Shared.{Shared, turned}

-- ---- what holds of every four points: their turns add up, and weigh the points

pub balance : (a b c d : Spot)
    → left_of c d a + right_of c d b + (left_of a b c + right_of a b d) ≡ right_of c d a + left_of c d b + (right_of a b c + left_of a b d)
balance a b c d = omega arith

balance_x : (a b c d : Spot)
    → right_of c d b * a.x + left_of c d a * b.x + (right_of a b d * c.x + left_of a b c * d.x)
    ≡ left_of c d b * a.x + right_of c d a * b.x + (left_of a b d * c.x + right_of a b c * d.x)
balance_x a b c d = omega arith

balance_y : (a b c d : Spot)
    → right_of c d b * a.y + left_of c d a * b.y + (right_of a b d * c.y + left_of a b c * d.y)
    ≡ left_of c d b * a.y + right_of c d a * b.y + (left_of a b d * c.y + right_of a b c * d.y)
balance_y a b c d = omega arith

-- ---- the turns as numbers: l1 - r1 that of a, r2 - l2 that of b, r3 - l3 that of c, l4 - r4 that of d

product : {l r : ℕ} (k : ℕ) → r < l → l * k ≡ r * k + (l - r) * k
product {l} {r} k h = go (l - r) (omega arith)
  where
    go : (d : ℕ) → l ≡ r + d → l * k ≡ r * k + d * k
    go d e = let m : l * k ≡ (r + d) * k = ap (λ (z : ℕ). z * k) e in omega arith

-- each product a number here
replaced : (l1 r1 l2 r2 l3 r3 l4 r4 d1 d2 d3 d4 : ℕ) → l1 ≡ r1 + d1 → r2 ≡ l2 + d2 → r3 ≡ l3 + d3 → l4 ≡ r4 + d4
    → r2 + l1 + (r4 + l3) ≡ l2 + r1 + (l4 + r3) → d2 + d1 ≡ d4 + d3
replaced l1 r1 l2 r2 l3 r3 l4 r4 d1 d2 d3 d4 h1 h2 h3 h4 e = omega arith

module _ {l1 r1 l2 r2 l3 r3 l4 r4 : ℕ} (h1 : r1 < l1) (h2 : l2 < r2) (h3 : l3 < r3) (h4 : r4 < l4) where
  sums : l1 + r2 + (l3 + r4) ≡ r1 + l2 + (r3 + l4) → l1 - r1 + (r2 - l2) ≡ r3 - l3 + (l4 - r4)
  sums e = omega arith

  positive : 0 < l1 - r1 + (r2 - l2)
  positive = omega arith

  weights : (a b c d : ℕ) → r2 * a + l1 * b + (r4 * c + l3 * d) ≡ l2 * a + r1 * b + (l4 * c + r3 * d)
      → (r2 - l2) * a + (l1 - r1) * b ≡ (l4 - r4) * c + (r3 - l3) * d
  weights a b c d e =
      replaced (l1 * b) (r1 * b) (l2 * a) (r2 * a) (l3 * d) (r3 * d) (l4 * c) (r4 * c) _ _ _ _
      (product b h1) (product a h2) (product d h3) (product c h4) e

-- a lies to the left of c d and b to its right, c to the right of a b and d to its left
crossing : (a b c d : Spot) → right_of c d a < left_of c d a → left_of c d b < right_of c d b
    → left_of a b c < right_of a b c → right_of a b d < left_of a b d → Shared a b c d
crossing a b c d h1 h2 h3 h4 =
    record {
      s = left_of c d a - right_of c d a;
      s' = right_of c d b - left_of c d b;
      t = right_of a b c - left_of a b c;
      t' = left_of a b d - right_of a b d;
      whole = sums h1 h2 h3 h4 (balance a b c d);
      some = positive h1 h2 h3 h4;
      across = weights h1 h2 h3 h4 a.x b.x c.x d.x (balance_x a b c d);
      upward = weights h1 h2 h3 h4 a.y b.y c.y d.y (balance_y a b c d);
    }

-- where c lies to the left as well, the turns do not add up
uneven : {l1 r1 l2 r2 l3 r3 l4 r4 : ℕ} → r1 < l1 → l2 < r2 → r3 < l3 → l4 < r4 → l1 + r2 + (l3 + r4) ≡ r1 + l2 + (r3 + l4) → ⊥
uneven h1 h2 h3 h4 e = omega arith

pub crossed : (a b c d : Spot) → Opposite (left_of c d a) (right_of c d a) (left_of c d b) (right_of c d b)
    → Opposite (left_of a b c) (right_of a b c) (left_of a b d) (right_of a b d) → Shared a b c d
crossed a b c d (inl (h, k)) (inr (m, n)) = crossing a b c d h k m n
crossed a b c d (inr (h, k)) (inl (m, n)) = turned (crossing b a c d k h m n)
crossed a b c d (inl (h, k)) (inl (m, n)) = absurd (uneven h k m n (balance a b c d))
crossed a b c d (inr (h, k)) (inr (m, n)) = absurd (uneven h k m n (sym (balance a b c d)))
