-- What the lines of a reason part, and how they balance, stays as it is where so much more is added to every coordinate: no side of a line changes, no mean, and no height against
-- another. Assumes nothing.
use Prim.Native.Nat.{ℕ, zero, suc, ◌+◌, ◌*◌, ◌≤◌, ◌<◌}
use native.Mathlib.Omega.{arith}
use mathlib.Core.Path.{◌≡◌, refl, sym, ap, ap₂, ◌∙◌}
use mathlib.Core.List.{List, [], ◌∷◌, map}
use lib.Dec.{ltb}
use borrow.Author.Tests.{lt-ltb, le-ltb}
use native.Mathlib.Decide.{dec_lt}
use Rattle.shifted.specs.declared.Spot.{Spot}
use Rattle.reasons.specs.Sides.{AllLeft}
use Rattle.reasons.specs.Hull.{total, sum_x, sum_y, InHull}
use Rattle.reasons.specs.Moves.{legs_from, way}
use Rattle.reasons.specs.Reason.{Parted, mark, marks_up, marks_down, AllParted}
use Rattle.drawn.specs.Told.{raised}

-- in numbers: the line goes through (a, b) and (c, e), and the point is (x, y)
sides : (a b c e x y d : ℕ) → a * y + e * x + 1 * (c * b) ≤ c * y + b * x + 1 * (a * e)
    → (a + d) * (y + d) + (e + d) * (x + d) + 1 * ((c + d) * (b + d))
    ≤ (c + d) * (y + d) + (b + d) * (x + d) + 1 * ((a + d) * (e + d))
sides a b c e x y d h = omega arith

module _ (d : ℕ) where
  all_left : (p q : Spot) (vs : List Spot) → AllLeft p q vs → AllLeft (raised d p) (raised d q) (map (raised d) vs)
  all_left p q [] h = tt
  all_left p q (v ∷ vs) h = (sides p.x p.y q.x q.y v.x v.y d h.0, all_left p q vs h.1)

  -- a level line, of length 1 as before
  level : (m x y : ℕ) → 0 * y + m * x + 1 * (1 * m) ≤ 1 * y + m * x + 1 * (0 * m)
      → 0 * (y + d) + (m + d) * (x + d) + 1 * (1 * (m + d)) ≤ 1 * (y + d) + (m + d) * (x + d) + 1 * (0 * (m + d))
  level m x y h = omega arith

  all_over : (m : ℕ) (vs : List Spot) → AllLeft (record { x = 0; y = m }) (record { x = 1; y = m }) vs
      → AllLeft (record { x = 0; y = m + d }) (record { x = 1; y = m + d }) (map (raised d) vs)
  all_over m [] h = tt
  all_over m (v ∷ vs) h = (level m v.x v.y h.0, all_over m vs h.1)

  -- ---- means

  same_total : (w : ℕ → ℕ) (vs : List Spot) → total w (map (raised d) vs) ≡ total w vs
  unfolding total
  same_total w [] = refl
  same_total w (v ∷ vs) = ap (λ z. w 0 + z) (same_total (λ i. w (suc i)) vs)

  more_across : (w : ℕ → ℕ) (vs : List Spot) → sum_x w (map (raised d) vs) ≡ sum_x w vs + total w vs * d
  unfolding total sum_x
  more_across w [] = omega arith
  more_across w (v ∷ vs) = omega (arith, more_across (λ i. w (suc i)) vs)

  more_upward : (w : ℕ → ℕ) (vs : List Spot) → sum_y w (map (raised d) vs) ≡ sum_y w vs + total w vs * d
  unfolding total sum_y
  more_upward w [] = omega arith
  more_upward w (v ∷ vs) = omega (arith, more_upward (λ i. w (suc i)) vs)

  in_hull : (vs : List Spot) (x y : ℕ) → InHull vs 1 x y → InHull (map (raised d) vs) 1 (x + d) (y + d)
  in_hull vs x y h =
      record {
        weight = h.weight;
        all = same_total h.weight vs ∙ h.all;
        across = omega (arith, more_across h.weight vs, ap (λ z. z * d) h.all, h.across);
        upward = omega (arith, more_upward h.weight vs, ap (λ z. z * d) h.all, h.upward);
      }

  -- ---- heights

  same_ltb : (a b : ℕ) → ltb (a + d) (b + d) ≡ ltb a b
  same_ltb a b = go (dec_lt a b)
    where
      go : Dec (a < b) → ltb (a + d) (b + d) ≡ ltb a b
      go (yes l) = lt-ltb (a + d) (b + d) (omega arith) ∙ sym (lt-ltb a b l)
      go (no l) = le-ltb (a + d) (b + d) (omega arith) ∙ sym (le-ltb a b (omega arith))

  same_mark : (m : ℕ) (p q s t : Spot) → mark (m + d) (raised d p) (raised d q) (raised d s) (raised d t) ≡ mark m p q s t
  unfolding mark
  same_mark m p q s t = rw (same_ltb p.y q.y, same_ltb m s.y, same_ltb m t.y)

  module _ (p q s : ℕ → Spot) (m : ℕ) where
    pub same_up : (n : ℕ) → marks_up (m + d) (λ j. raised d (p j)) (λ j. raised d (q j)) (λ j. raised d (s j)) n ≡ marks_up m p q s n
    unfolding marks_up
    same_up zero = refl
    same_up (suc n) = ap₂ ◌+◌ (same_up n) (same_mark m (p n) (q n) (s n) (s (suc n)))

    pub same_down : (n : ℕ) → marks_down (m + d) (λ j. raised d (p j)) (λ j. raised d (q j)) (λ j. raised d (s j)) n ≡ marks_down m p q s n
    unfolding marks_down
    same_down zero = refl
    same_down (suc n) = ap₂ ◌+◌ (same_down n) (same_mark m (p n) (q n) (s (suc n)) (s n))

  -- ---- the lines

  parted : {vs : List Spot} {s t p q : Spot} → Parted vs s t p q
      → Parted (map (raised d) vs) (raised d s) (raised d t) (raised d p) (raised d q)
  parted {vs} {s} {t} {p} {q} h =
      record {
        two = λ e f. h.two (omega arith) (omega arith);
        left = all_left p q vs h.left;
        first = sides q.x q.y p.x p.y s.x s.y d h.first;
        second = sides q.x q.y p.x p.y t.x t.y d h.second;
      }

  pub all_parted : {vs : List Spot} {low : Spot} {s p q : ℕ → Spot} {n : ℕ} → AllParted vs low s p q n
      → AllParted (map (raised d) vs) (raised d low) (λ j. raised d (s j)) (λ j. raised d (p j)) (λ j. raised d (q j)) n
  all_parted {vs} {low} r =
      record {
        closed = ap (raised d) r.closed;
        parted = λ j h. parted (r.parted j h);
        among = in_hull vs low.x low.y r.among;
        lowest = all_over low.y vs r.lowest;
      }

  -- the way of raised corners
  pub way_raised : (a b : ℕ → Spot) (k n : ℕ)
      → map (raised d) (way (legs_from a b k n)) ≡ way (legs_from (λ i. raised d (a i)) (λ i. raised d (b i)) k n)
  unfolding way legs_from
  way_raised a b k zero = refl
  way_raised a b k (suc n) = ap (λ l. raised d (a k) ∷ raised d (b k) ∷ l) (way_raised a b (suc k) n)
