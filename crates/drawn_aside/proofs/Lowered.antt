-- Corners put aside on the grid, brought down again: whole numbers within the bounds, each off by at most the width from where it
-- was, and moved up they are as they were. Assumes nothing.
use Prim.Native.Nat.{ℕ, zero, suc, ◌+◌, ◌*◌, ◌-◌, ◌/◌, ◌%◌, ◌≤◌, ◌<◌}
use native.Mathlib.Nat.{mod-lt, div-add-mod'}
use native.Mathlib.Omega.{arith}
use mathlib.Core.Path.{◌≡◌, refl, sym, ap, ap₂, subst, ◌∙◌}
use mathlib.Core.Bool.{Bool, true, false}
use mathlib.Core.List.{List, [], ◌∷◌, map}
use lib.Dec.{leb, ltb}
use lib.ListN.{length, get_or, length-map}
use lib.IntN.{ℤ, pos, negsuc, ◌+ℤ◌}
use borrow.Author.Tests.{leb-true, leb-false, ltb-true}
use Rattle.laws.proofs.Both.{both}
use Rattle.shifted.specs.Shifted.{in_bounds, up_of, spot_at}
use Rattle.shifted.specs.declared.Spot.{Spot}
use Rattle.whole_floats.specs.Whole.{Difference}
use Rattle.whole_floats.proofs.Differences.{added, equal}
use Rattle.whole_engine.specs.Rows.{all_in_bounds}
use Rattle.whole_moves.specs.Moved.{down_of}
use Rattle.whole_moves.proofs.Lowered.{down_within, up_down}
use Rattle.put_aside.specs.Aside.{width_of, aside, stays_on}
use Rattle.put_aside.proofs.Off.{aside_near, aside_length, aside_small}
use Rattle.drawn_floats.specs.Picture.{size_of, Aside}

-- ---- one number

-- a number within the bounds is what it is moved up, less a million
up_is : (z : ℤ) → in_bounds z ≡ true → Difference z (up_of z) 1000000
unfolding up_of
up_is (pos n) h = rw h (omega arith)
up_is (negsuc n) h = rw h (omega (arith, ltb-true n 1000000 h))

down_is : (u : ℕ) → u ≤ 2000000 → Difference (down_of u) u 1000000
down_is u h = subst (λ (v : ℕ). Difference (down_of u) v 1000000) (up_down u h) (up_is (down_of u) (down_within u h))

-- one that comes to u, off by at most w
module _ (w u : ℕ) (z : ℤ) (h : u ≤ 2000000) (b : in_bounds z ≡ true) (right : u ≤ up_of z + w) (left : up_of z ≤ u + w) where
  gone : (d : ℤ) → Difference d u (up_of z) → down_of u ≡ z +ℤ d
  gone d e =
      equal (down_of u) (z +ℤ d) (up_of z + u) (1000000 + up_of z)
      (moved (down_of u) (down_is u h))
      (added z d (up_of z) 1000000 u (up_of z) (up_is z b) e)
    where
      moved : (y : ℤ) → Difference y u 1000000 → Difference y (up_of z + u) (1000000 + up_of z)
      moved (pos n) q = omega arith
      moved (negsuc n) q = omega arith

  off : (d : ℤ) × (size_of d ≤ w) × (down_of u ≡ z +ℤ d)
  off = go (leb (up_of z) u) refl
    where
      go : (t : Bool) → leb (up_of z) u ≡ t → (d : ℤ) × (size_of d ≤ w) × (down_of u ≡ z +ℤ d)
      go true e =
          let l = leb-true (up_of z) u e in
          (pos (u - up_of z), omega (arith, l), gone (pos (u - up_of z)) (omega (arith, l)))
      go false e =
          let l = leb-false (up_of z) u e in
          (negsuc (up_of z - suc u), omega (arith, l), gone (negsuc (up_of z - suc u)) (omega (arith, l)))

-- ---- a list of them

-- place by place off by at most w, and on the grid
abbrev pub Close : ℕ → List ℕ → List ℕ → Type 0
Close w us vs =
    (i : ℕ) → i < length us → (get_or vs i 0 ≤ get_or us i 0 + w) × (get_or us i 0 ≤ get_or vs i 0 + w) × (get_or vs i 0 ≤ 2000000)

module _ (w : ℕ) where
  next : (u v : ℕ) (us vs : List ℕ) → Close w (u ∷ us) (v ∷ vs) → Close w us vs
  next u v us vs h i l = h (suc i) (omega arith)

  pub lowered_aside : (zs : List ℤ) (vs : List ℕ) → all_in_bounds zs ≡ true → length vs ≡ length zs → Close w (map up_of zs) vs
      → Aside w zs (map down_of vs)
  unfolding all_in_bounds
  lowered_aside [] [] b e h = tt
  lowered_aside [] (v ∷ vs) b e h = absurd (omega arith)
  lowered_aside (z ∷ zs) [] b e h = absurd (omega arith)
  lowered_aside (z ∷ zs) (v ∷ vs) b e h =
      let p = both (in_bounds z) (all_in_bounds zs) b in
      let here = h 0 (omega arith) in (
        off w v z here.2 p.0 here.0 here.1,
        lowered_aside zs vs p.1 (omega arith) (next (up_of z) v (map up_of zs) vs h),
      )

  pub lowered_within : (us vs : List ℕ) → length vs ≡ length us → Close w us vs → all_in_bounds (map down_of vs) ≡ true
  unfolding all_in_bounds
  lowered_within us [] e h = refl
  lowered_within [] (v ∷ vs) e h = absurd (omega arith)
  lowered_within (u ∷ us) (v ∷ vs) e h =
      rw (down_within v (h 0 (omega arith)).2, lowered_within us vs (omega arith) (next u v us vs h))

  pub raised_again : (us vs : List ℕ) → length vs ≡ length us → Close w us vs → map up_of (map down_of vs) ≡ vs
  raised_again us [] e h = refl
  raised_again [] (v ∷ vs) e h = absurd (omega arith)
  raised_again (u ∷ us) (v ∷ vs) e h =
      ap₂ ◌∷◌ (up_down v (h 0 (omega arith)).2) (raised_again us vs (omega arith) (next u v us vs h))

-- ---- corners put aside

module _ (list : List ℕ) (from to : Spot) (how : ℕ) (pairs : (k : ℕ) × (length list ≡ 2 * k)) (on : stays_on list from to how ≡ true) where
  pub as_long : length (aside list from to how) ≡ length list
  as_long = omega (arith, aside_length list from to how, pairs.1)

  -- number 2 * i + e of a list, where e is 0 or 1, is one of point i
  point_close : (i e : ℕ) → i < length list / 2 → e < 2
      → (get_or (aside list from to how) (2 * i + e) 0 ≤ get_or list (2 * i + e) 0 + width_of how)
      × (get_or list (2 * i + e) 0 ≤ get_or (aside list from to how) (2 * i + e) 0 + width_of how)
      × (get_or (aside list from to how) (2 * i + e) 0 ≤ 2000000)
  point_close i zero l m =
      let n = aside_near list from to how on i l in
      let s = aside_small list from to how on i (omega (arith, as_long)) in
      let q : 2 * i + 0 ≡ 2 * i = omega arith in
      rw q (n.right, n.left, s.width)
  point_close i (suc zero) l m =
      let n = aside_near list from to how on i l in
      let s = aside_small list from to how on i (omega (arith, as_long)) in
      (n.above, n.below, s.height)
  point_close i (suc (suc e)) l m = absurd (omega arith)

  pub aside_close : Close (width_of how) list (aside list from to how)
  aside_close i l =
      let q : i ≡ 2 * (i / 2) + i % 2 = omega arith in
      rw q (point_close (i / 2) (i % 2) (omega (arith, pairs.1)) (omega arith))
