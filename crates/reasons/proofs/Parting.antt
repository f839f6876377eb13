-- The computed tests of a line say what the definitions say: a line parts an edge from a way exactly if its test holds.
-- Assumes nothing.
use Prim.Native.Nat.{ℕ, zero, suc, ◌+◌, ◌≤◌, ◌<◌}
use native.Mathlib.Omega.{arith}
use mathlib.Core.Path.{◌≡◌, refl, sym, ◌∙◌}
use mathlib.Core.Bool.{Bool, true, false, not, ◌&&◌, true≢false}
use lib.Dec.{eqb}
use borrow.Author.Tests.{leb-true, le-leb, eqb-true, eq-eqb}
use Rattle.laws.proofs.Both.{both}
use Rattle.ring.specs.Each.{each}
use Rattle.shifted.specs.declared.Spot.{Spot}
use Rattle.reasons.specs.Sides.{left_of, right_of, AllLeft}
use Rattle.reasons.specs.Moves.{legs_from, legs, way}
use Rattle.reasons.specs.Reason.{Parted}
use Rattle.reasons.specs.Parting.{left_sum, right_sum, left_on, right_on, way_left, edge_right, differ, parts}

-- ---- a point

module _ (p q v : Spot) where
  abbrev pub Left : Type 0
  Left = right_of p q 1 v.x v.y ≤ left_of p q 1 v.x v.y

  abbrev Right : Type 0
  Right = left_of p q 1 v.x v.y ≤ right_of p q 1 v.x v.y

  on_left : left_on p q v ≡ true → Left
  unfolding left_on
  on_left h = omega (arith, leb-true (right_sum p q v) (left_sum p q v) h)

  left_on_lem : Left → left_on p q v ≡ true
  unfolding left_on
  left_on_lem h = le-leb (right_sum p q v) (left_sum p q v) (omega arith)

  on_right : right_on p q v ≡ true → Right
  unfolding right_on
  on_right h = omega (arith, leb-true (left_sum p q v) (right_sum p q v) h)

  right_on_lem : Right → right_on p q v ≡ true
  unfolding right_on
  right_on_lem h = le-leb (left_sum p q v) (right_sum p q v) (omega arith)

-- ---- a way

module _ (a b : ℕ → Spot) (p q : Spot) where
  -- each corner, at the start and at the end
  pub all_left : (k n : ℕ) → ((i : ℕ) → k ≤ i → i < k + n → Left p q (a i) × Left p q (b i))
      → AllLeft p q (way (legs_from a b k n))
  unfolding way legs_from
  all_left k zero h = tt
  all_left k (suc n) h =
      let here = h k (omega arith) (omega arith) in
      (here.0, (here.1, all_left (suc k) n (λ i l m. h i (omega arith) (omega arith))))

  on_way : (k n : ℕ) → each (λ i. left_on p q (a i) && left_on p q (b i)) k n ≡ true → AllLeft p q (way (legs_from a b k n))
  unfolding way legs_from each
  on_way k zero h = tt
  on_way k (suc n) h =
      let t = both (left_on p q (a k) && left_on p q (b k)) _ h in
      let u = both (left_on p q (a k)) (left_on p q (b k)) t.0 in
      (on_left p q (a k) u.0, (on_left p q (b k) u.1, on_way (suc k) n t.1))

  way_on : (k n : ℕ) → AllLeft p q (way (legs_from a b k n)) → each (λ i. left_on p q (a i) && left_on p q (b i)) k n ≡ true
  unfolding way legs_from each
  way_on k zero h = refl
  way_on k (suc n) h = rw (left_on_lem p q (a k) h.0, left_on_lem p q (b k) h.1.0, way_on (suc k) n h.1.1)

-- ---- a line

two_points : (p q : Spot) → differ p q ≡ true → p.x ≡ q.x → p.y ≡ q.y → ⊥
unfolding differ
two_points p q h e f = true≢false (sym h ∙ rw (eq-eqb p.x q.x e, eq-eqb p.y q.y f))

points_two : (p q : Spot) → (p.x ≡ q.x → p.y ≡ q.y → ⊥) → differ p q ≡ true
unfolding differ
points_two p q h = go (eqb p.x q.x) (eqb p.y q.y) refl refl
  where
    go : (s t : Bool) → eqb p.x q.x ≡ s → eqb p.y q.y ≡ t → not (s && t) ≡ true
    go true true e f = absurd (h (eqb-true _ _ e) (eqb-true _ _ f))
    go true false e f = refl
    go false t e f = refl

module _ (a b : ℕ → Spot) (n : ℕ) (s t p q : Spot) where
  pub parts_parted : parts a b n s t p q ≡ true → Parted (way (legs a b n)) s t p q
  unfolding parts way_left edge_right
  parts_parted h =
      let d = both (differ p q) _ h in
      let w = both (way_left a b n p q) _ d.1 in
      let e = both (right_on p q s) (right_on p q t) w.1 in
      record {
        two = two_points p q d.0;
        left = on_way a b p q 0 n w.0;
        first = on_right p q s e.0;
        second = on_right p q t e.1;
      }

  pub parted_parts : Parted (way (legs a b n)) s t p q → parts a b n s t p q ≡ true
  unfolding parts way_left edge_right
  parted_parts c =
      rw (points_two p q c.two, way_on a b p q 0 n c.left, right_on_lem p q s c.first, right_on_lem p q t c.second)
