-- What the tests let pass: points within a million, and a ring of at most 256 of them. Assumes nothing.
use Prim.Native.Nat.{◌≤◌}
use native.Mathlib.Omega.{arith}
use mathlib.Core.Path.{◌≡◌, refl}
use mathlib.Core.Bool.{true}
use mathlib.Core.List.{List, [], ◌∷◌}
use lib.ListN.{length}
use lib.Dec.{lit<}
use lib.IntN.{ℤ}
use Rattle.refusals.specs.Refusals.{refused_number, passed}
use Rattle.refusals.specs.Lists.{list_fault}
use Rattle.refusals.proofs.Sized.{fine, holds, row_parts}
use Rattle.shifted.specs.Shifted.{spot_of, Small}
use Rattle.shifted.specs.declared.Spot.{Spot}
use Rattle.whole_engine.specs.Rows.{all_in_bounds, wrong_whole, whole_extent, of_whole_ring}
use Rattle.whole_engine.proofs.Within.{small_in}

pub all_within : (zs : List ℤ) → passed (wrong_whole zs) ≡ true → all_in_bounds zs ≡ true
all_within zs h = holds (all_in_bounds zs) refused_number 0 refl h

pub ring_within : (zs : List ℤ) → passed (of_whole_ring zs) ≡ true → (length zs ≤ 512) × (all_in_bounds zs ≡ true)
unfolding of_whole_ring
ring_within zs h =
    let p = row_parts (list_fault (whole_extent zs) 0) (wrong_whole zs) h in
    let f = fine (whole_extent zs) 0 p.0 in
    (omega (arith, f.whole, f.within), all_within zs p.1)

-- ---- points

module _ (ax ay bx by cx cy : ℤ) {a b c : Spot} (e : a ≡ spot_of ax ay) (f : b ≡ spot_of bx by) (g : c ≡ spot_of cx cy) where
  pub small_three : all_in_bounds (ax ∷ ay ∷ bx ∷ by ∷ cx ∷ cy ∷ []) ≡ true → Small a × Small b × Small c
  small_three h =
      let zs = ax ∷ ay ∷ bx ∷ by ∷ cx ∷ cy ∷ [] in
      rw (e, f, g) (small_in zs 0 h (lit< tt), small_in zs 1 h (lit< tt), small_in zs 2 h (lit< tt))

module _ (x1 y1 x2 y2 x3 y3 x4 y4 : ℤ) {a b c d : Spot}
    (e : a ≡ spot_of x1 y1) (f : b ≡ spot_of x2 y2) (g : c ≡ spot_of x3 y3) (h : d ≡ spot_of x4 y4) where
  pub small_four : all_in_bounds (x1 ∷ y1 ∷ x2 ∷ y2 ∷ x3 ∷ y3 ∷ x4 ∷ y4 ∷ []) ≡ true → Small a × Small b × Small c × Small d
  small_four k =
      let zs = x1 ∷ y1 ∷ x2 ∷ y2 ∷ x3 ∷ y3 ∷ x4 ∷ y4 ∷ [] in
      rw (e, f, g, h) (small_in zs 0 k (lit< tt), small_in zs 1 k (lit< tt), small_in zs 2 k (lit< tt), small_in zs 3 k (lit< tt))
