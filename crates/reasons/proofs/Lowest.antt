-- The lowest corner of a way is one of its corners, and none is lower. Assumes nothing.
use Prim.Native.Nat.{ℕ, zero, suc, ◌+◌, ◌≤◌, ◌<◌, min}
use native.Mathlib.Nat.{eq-or-lt_of_le}
use native.Mathlib.Omega.{arith}
use mathlib.Core.Path.{◌≡◌, refl, sym, subst}
use mathlib.Core.Logic.{⊎_elim}
use mathlib.Core.Bool.{Bool, true, false, cond}
use mathlib.Core.List.{List, [], ◌∷◌}
use lib.Dec.{ltb}
use borrow.Author.Tests.{ltb-true, ltb-false}
use Rattle.shifted.specs.declared.Spot.{Spot}
use Rattle.reasons.specs.Sides.{AllLeft}
use Rattle.reasons.specs.Hull.{total, sum_x, sum_y, InHull}
use Rattle.reasons.specs.Moves.{legs_from, legs, way}
use Rattle.reasons.specs.Lowest.{lower, low_spot, lowest}
use Rattle.reasons.proofs.Sides.{in_hull}
use Rattle.reasons.proofs.Parting.{all_left}

-- ---- of two

pub lower_height : (s t : Spot) → (lower s t).y ≡ min s.y t.y
unfolding lower
lower_height s t = go (ltb t.y s.y) refl
  where
    go : (b : Bool) → ltb t.y s.y ≡ b → (cond b t s).y ≡ min s.y t.y
    go true e = omega (arith, ltb-true t.y s.y e)
    go false e = omega (arith, ltb-false t.y s.y e)

lower_one : (P : Spot → Type 0) (s t : Spot) → P s → P t → P (lower s t)
unfolding lower
lower_one P s t h k = go (ltb t.y s.y)
  where
    go : (b : Bool) → P (cond b t s)
    go true = k
    go false = h

-- ---- one of the corners

-- what holds of each corner holds of the lowest
low_one : (P : Spot → Type 0) (a b : ℕ → Spot) (n : ℕ) → P (a 0) → ((i : ℕ) → i < n → P (a i) × P (b i)) → P (low_spot a b n)
unfolding low_spot
low_one P a b zero h all = h
low_one P a b (suc n) h all =
    let last = all n (omega arith) in
    lower_one P _ (b n) (lower_one P _ (a n) (low_one P a b n h (λ i l. all i (omega arith))) last.0) last.1

-- the first of points alone, by its weight, and the others
abbrev first : ℕ → ℕ
first zero = 1
first (suc i) = 0

abbrev later : (ℕ → ℕ) → ℕ → ℕ
later w zero = 0
later w (suc i) = w i

abbrev Among : List Spot → Spot → Type 0
Among vs v = InHull vs 1 v.x v.y

none : (vs : List Spot) → (total (λ i. 0) vs ≡ 0) × (sum_x (λ i. 0) vs ≡ 0) × (sum_y (λ i. 0) vs ≡ 0)
unfolding total sum_x sum_y
none [] = (refl, refl, refl)
none (v ∷ vs) = let z = none vs in (omega (arith, z.0), omega (arith, z.1), omega (arith, z.2))

here : (v : Spot) (vs : List Spot) → Among (v ∷ vs) v
unfolding total sum_x sum_y
here v vs =
    let z = none vs in
    record { weight = first; all = omega (arith, z.0); across = omega (arith, z.1); upward = omega (arith, z.2) }

there : (u v : Spot) (vs : List Spot) → Among vs v → Among (u ∷ vs) v
unfolding total sum_x sum_y
there u v vs r =
    record {
      weight = later r.weight;
      all = omega (arith, r.all);
      across = omega (arith, r.across);
      upward = omega (arith, r.upward);
    }

module _ (a b : ℕ → Spot) where
  among_way : (k n i : ℕ) → k ≤ i → i < k + n → Among (way (legs_from a b k n)) (a i) × Among (way (legs_from a b k n)) (b i)
  unfolding way legs_from
  among_way k zero i l m = absurd (omega arith)
  among_way k (suc n) i l m =
      ⊎_elim
      (λ e. subst (λ (j : ℕ). Among (way (legs_from a b k (suc n))) (a j) × Among (way (legs_from a b k (suc n))) (b j)) e
      (here (a k) _, there (a k) (b k) _ (here (b k) _)))
      (λ g.
      let r = among_way (suc k) n i g (omega arith) in
      (there (a k) (a i) _ (there (b k) (a i) _ r.0), there (a k) (b i) _ (there (b k) (b i) _ r.1)))
      (eq-or-lt_of_le l)

  pub low_among : (n : ℕ) → 0 < n → Among (way (legs a b n)) (low_spot a b n)
  low_among n h =
      low_one (Among (way (legs a b n))) a b n (among_way 0 n 0 (omega arith) (omega arith)).0
      (λ i l. among_way 0 n i (omega arith) (omega arith))

  -- ---- none is lower

  low_most : (n i : ℕ) → i < n → (lowest a b n ≤ (a i).y) × (lowest a b n ≤ (b i).y)
  unfolding low_spot
  low_most zero i l = absurd (omega arith)
  low_most (suc n) i l =
      let s = low_spot a b n in
      let e = lower_height s (a n) in
      let f = lower_height (lower s (a n)) (b n) in
      ⊎_elim
      (λ q. subst (λ (j : ℕ). (lowest a b (suc n) ≤ (a j).y) × (lowest a b (suc n) ≤ (b j).y)) (sym q) (omega arith, omega arith))
      (λ g. let r = low_most n i g in (omega arith, omega arith))
      (eq-or-lt_of_le {n = i} {m = n} (omega arith))

  -- left of the line along its height, or on it
  abbrev pub level : ℕ → ℕ → Spot
  level h u = record { x = u; y = h }

  pub low_level : (n : ℕ) → AllLeft (level (lowest a b n) 0) (level (lowest a b n) 1) (way (legs a b n))
  low_level n = all_left a b _ _ 0 n (λ i l m. let r = low_most n i (omega arith) in (omega arith, omega arith))

  -- a corner that none is below is as high
  pub low_only : (n : ℕ) → 0 < n → (low : Spot) → Among (way (legs a b n)) low
      → AllLeft (level low.y 0) (level low.y 1) (way (legs a b n)) → low.y ≡ lowest a b n
  low_only n h low r l =
      let x = in_hull (level low.y 0) (level low.y 1) l (low_among n h) in
      let y = in_hull (level (lowest a b n) 0) (level (lowest a b n) 1) (low_level n) r in
      omega arith
