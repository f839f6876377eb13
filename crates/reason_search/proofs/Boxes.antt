-- The box of a way: no corner lies beyond it, so each of its sides has the whole way on its left; it is within the bounds; and how
-- the loop makes it. Assumes nothing.
use Prim.Native.Nat.{ℕ, zero, suc, ◌+◌, ◌-◌, ◌≤◌, ◌<◌}
use native.Mathlib.Nat.{eq-or-lt_of_le, min-le_left, min-le_right, le-max_left, le-max_right, max-le, le_trans}
use native.Mathlib.Numerals.{add-one}
use native.Mathlib.Omega.{arith}
use mathlib.Core.Path.{◌≡◌, refl, sym, subst}
use mathlib.Core.Logic.{⊎_elim}
use mathlib.Core.Bool.{Bool, true, false, not, ◌&&◌}
use lib.Dec.{eqb}
use borrow.Author.Tests.{le-leb}
use Rattle.ring.specs.Each.{each}
use Rattle.shifted.specs.Shifted.{Small}
use Rattle.shifted.specs.declared.Spot.{Spot}
use Rattle.reasons.specs.Parting.{left_sum, right_sum, left_on, way_left, edge_right, differ}
use Rattle.reason_search.specs.Lines.{line, spot, lesser, greater, box_low, box_high, box_line}
use Rattle.reason_search.specs.Noted.{beside_box, leaves}
use Rattle.reason_search.specs.declared.Line.{Line}

-- ---- no corner lies beyond it

pub record Within (low high v : Spot) : Type 0 where
  pub west : low.x ≤ v.x
  pub south : low.y ≤ v.y
  pub east : v.x ≤ high.x
  pub north : v.y ≤ high.y

-- a box that grows
wider : {low high v : Spot} (w : Spot) → Within low high v → Within (lesser low w) (greater high w) v
wider {low} {high} w h = record {
  west = le_trans (min-le_left low.x w.x) h.west;
  south = le_trans (min-le_left low.y w.y) h.south;
  east = le_trans h.east (le-max_left high.x w.x);
  north = le_trans h.north (le-max_left high.y w.y);
}

new : (low high w : Spot) → Within (lesser low w) (greater high w) w
new low high w = record {
  west = min-le_right low.x w.x;
  south = min-le_right low.y w.y;
  east = le-max_right high.x w.x;
  north = le-max_right high.y w.y;
}

module _ (a b : ℕ → Spot) where
  abbrev InBox : ℕ → Spot → Type 0
  InBox n v = Within (box_low a b n) (box_high a b n) v

  pub in_box : (n i : ℕ) → i < n → InBox n (a i) × InBox n (b i)
  unfolding box_low box_high
  in_box zero i h = absurd (omega arith)
  in_box (suc n) i h =
      ⊎_elim
      (λ q. subst (λ (j : ℕ). InBox (suc n) (a j) × InBox (suc n) (b j)) (sym q) (wider (b n) (new _ _ (a n)), new _ _ (b n)))
      (λ q. let r = in_box n i q in (wider (b n) (wider (a n) r.0), wider (b n) (wider (a n) r.1)))
      (eq-or-lt_of_le {n = i} {m = n} (omega arith))

-- ---- it is within the bounds

larger_small : {u v : Spot} → Small u → Small v → Small (greater u v)
larger_small h k = record { width = max-le h.width k.width; height = max-le h.height k.height }

module _ (a b : ℕ → Spot) where
  high_small : (n : ℕ) → Small (a 0) → ((i : ℕ) → i < n → Small (a i) × Small (b i)) → Small (box_high a b n)
  unfolding box_high
  high_small zero z h = z
  high_small (suc n) z h =
      let r = h n (omega arith) in
      larger_small (larger_small (high_small n z (λ i l. h i (omega arith))) r.0) r.1

  pub box_small : (n : ℕ) → 0 < n → ((i : ℕ) → i < n → Small (a i) × Small (b i)) → Small (box_low a b n) × Small (box_high a b n)
  box_small n some h =
      let z = (h 0 some).0 in
      let w = (in_box a b n 0 some).0 in
      (record { width = le_trans w.west z.width; height = le_trans w.south z.height }, high_small n z h)

-- ---- its sides

pub side_last : (c : ℕ) (low high : Spot) → 3 ≤ c → line (spot 1000000 low.y) (spot 1000001 low.y) ≡ box_line c low high
unfolding box_line
side_last c low high h = let e : c ≡ suc (suc (suc (c - 3))) = omega arith in rw e

not_both : (x : Bool) → not (x && false) ≡ true
not_both true = refl
not_both false = refl

module _ (low high : Spot) where
  pub side_small : (c : ℕ) → Small low → Small high → Small (box_line c low high).p × Small (box_line c low high).q
  unfolding box_line
  side_small zero h k =
      (record { width = k.width; height = omega arith }, record { width = k.width; height = omega arith })
  side_small (suc zero) h k =
      (record { width = omega arith; height = k.height }, record { width = omega arith; height = k.height })
  side_small (suc (suc zero)) h k =
      (record { width = h.width; height = omega arith }, record { width = h.width; height = omega arith })
  side_small (suc (suc (suc c))) h k =
      (record { width = omega arith; height = h.height }, record { width = omega arith; height = h.height })

  -- as they are made
  pub made_small : (c : ℕ) {l : Line} → Small low → Small high → l ≡ box_line c low high → Small l.p × Small l.q
  made_small c h k e = rw e (side_small c h k)

  pub beside_is : (s t : Spot) (c : ℕ) {l : Line} {x : Bool} → l ≡ box_line c low high → x ≡ edge_right l.p l.q s t
      → x ≡ beside_box low high s t c
  unfolding beside_box
  beside_is s t c e h = rw (← e) h

  side_two : (c : ℕ) → differ (box_line c low high).p (box_line c low high).q ≡ true
  unfolding box_line differ
  side_two zero = not_both (eqb high.x high.x)
  side_two (suc zero) = refl
  side_two (suc (suc zero)) = not_both (eqb low.x low.x)
  side_two (suc (suc (suc c))) = refl

  -- a point of the box is left of each
  side_left : (c : ℕ) (v : Spot) → Within low high v → left_on (box_line c low high).p (box_line c low high).q v ≡ true
  unfolding box_line left_on
  side_left zero v h =
      let p = spot high.x 1000000 in
      let q = spot high.x 1000001 in
      le-leb (right_sum p q v) (left_sum p q v) (omega (arith, h.east))
  side_left (suc zero) v h =
      let p = spot 1000001 high.y in
      let q = spot 1000000 high.y in
      le-leb (right_sum p q v) (left_sum p q v) (omega (arith, h.north))
  side_left (suc (suc zero)) v h =
      let p = spot low.x 1000001 in
      let q = spot low.x 1000000 in
      le-leb (right_sum p q v) (left_sum p q v) (omega (arith, h.west))
  side_left (suc (suc (suc c))) v h =
      let p = spot 1000000 low.y in
      let q = spot 1000001 low.y in
      le-leb (right_sum p q v) (left_sum p q v) (omega (arith, h.south))

all_each : (p : ℕ → Bool) (k n : ℕ) → ((i : ℕ) → k ≤ i → i < k + n → p i ≡ true) → each p k n ≡ true
unfolding each
all_each p k zero h = refl
all_each p k (suc n) h = rw (h k (omega arith) (omega arith), all_each p (suc k) n (λ i l m. h i (omega arith) (omega arith)))

-- and so is the whole way
pub side_leaves : (a b : ℕ → Spot) (n c : ℕ) → leaves a b n (box_line c (box_low a b n) (box_high a b n)) ≡ true
unfolding way_left
side_leaves a b n c =
    let low = box_low a b n in
    let high = box_high a b n in
    let p = (box_line c low high).p in
    let q = (box_line c low high).q in
    let each_left : (i : ℕ) → 0 ≤ i → i < 0 + n → (left_on p q (a i) && left_on p q (b i)) ≡ true =
    λ i l m.
    let z = in_box a b n i (omega arith) in
    rw (side_left low high c (a i) z.0, side_left low high c (b i) z.1) in
    rw (side_two low high c, all_each (λ i. left_on p q (a i) && left_on p q (b i)) 0 n each_left)

-- ---- the loop of `box_of`

pub low_turn : (a b : ℕ → Spot) (i : ℕ) {low u v x y : Spot} → low ≡ box_low a b i → u ≡ a i → v ≡ b i
    → x ≡ lesser low u → y ≡ lesser x v → y ≡ box_low a b (i + 1)
unfolding box_low
low_turn a b i h eu ev e f = rw (f, e, h, eu, ev, add-one i)

pub high_turn : (a b : ℕ → Spot) (i : ℕ) {high u v x y : Spot} → high ≡ box_high a b i → u ≡ a i → v ≡ b i
    → x ≡ greater high u → y ≡ greater x v → y ≡ box_high a b (i + 1)
unfolding box_high
high_turn a b i h eu ev e f = rw (f, e, h, eu, ev, add-one i)
