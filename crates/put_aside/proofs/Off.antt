-- A corner put aside is off by at most the width, and on the grid where all stay on it; and how 0 changes nothing. Assumes nothing.
use Prim.Native.Nat.{ℕ, zero, suc, ◌+◌, ◌*◌, ◌-◌, ◌/◌, ◌≤◌, ◌<◌}
use native.Mathlib.Nat.{eq-or-lt_of_le}
use native.Mathlib.Omega.{arith}
use mathlib.Core.Path.{◌≡◌, refl, sym, ap, subst, ◌∙◌}
use mathlib.Core.Logic.{⊎_elim}
use mathlib.Core.Bool.{Bool, true, false, cond, ◌&&◌}
use mathlib.Core.List.{List}
use lib.Dec.{eqb, leb, ltb}
use lib.ListN.{length, get_or}
use lib.Seq.{ext_get_or}
use borrow.Author.Tests.{leb-true, ltb-false, le-ltb, le-leb}
use Rattle.ring.specs.Each.{each}
use Rattle.ring.proofs.Each.{each_at}
use Rattle.shifted.specs.Shifted.{spot_at, Small}
use Rattle.shifted.specs.declared.Spot.{Spot}
use Rattle.put_aside.specs.Aside.{way_of, inward, gone, gone_by, rule_of, step_of, corner_by, on_grid, aside_by, stay_by}
use Rattle.put_aside.specs.Aside.{aside, OffBy, AsideIsNear, AsideIsAsLong, AsideIsSmall, AsideAsItIs, StaysAsItIs}
use Rattle.put_aside.specs.declared.Rule.{Rule}
use Rattle.put_aside.proofs.Steps.{step_narrow}
use Rattle.put_aside.proofs.Laying.{spots_length, spots_at}

-- ---- one coordinate

abbrev Near : ℕ → ℕ → ℕ → Type 0
Near w x y = (y ≤ x + w) × (x ≤ y + w)

inward_near : (w c x : ℕ) → Near w x (inward w c x)
unfolding inward
inward_near w c x = go (ltb (c + w) x) (ltb (x + w) c) refl refl
  where
    go : (s t : Bool) → ltb (c + w) x ≡ s → ltb (x + w) c ≡ t → Near w x (cond s (x - w) (cond t (x + w) c))
    go true t e f = (omega arith, omega arith)
    go false true e f = (omega arith, omega arith)
    go false false e f =
        let a = ltb-false (c + w) x e in
        let b = ltb-false (x + w) c f in
        (omega (arith, b), omega (arith, a))

gone_near : (w x plus minus : ℕ) → plus ≤ w → minus ≤ w → gone x plus minus ≤ 2000000 → Near w x (gone x plus minus)
unfolding gone
gone_near w x plus minus h k = go (ltb (x + plus) minus) refl
  where
    go : (s : Bool) → ltb (x + plus) minus ≡ s → cond s 2000001 (x + plus - minus) ≤ 2000000
        → Near w x (cond s 2000001 (x + plus - minus))
    go true e l = absurd (omega (arith, l))
    go false e l = let a = ltb-false (x + plus) minus e in (omega (arith, a), omega (arith, a))

-- ---- one corner

both_left : (a b : Bool) → (a && b) ≡ true → a ≡ true
both_left true b h = refl
both_left false b h = h

both_right : (a b : Bool) → (a && b) ≡ true → b ≡ true
both_right true b h = h
both_right false true h = refl
both_right false false h = h

on_small : (v : Spot) → on_grid v ≡ true → Small v
unfolding on_grid
on_small v h =
    let a = leb v.x 2000000 in
    let b = leb v.y 2000000 in
    record { width = leb-true v.x 2000000 (both_left a b h); height = leb-true v.y 2000000 (both_right a b h) }

off : {w : ℕ} {u v : Spot} → Near w u.x v.x → Near w u.y v.y → OffBy w u v
off h k = record { right = h.0; left = h.1; above = k.0; below = k.1 }

corner_near : (r : Rule) (v : Spot) → Small (corner_by r v) → OffBy r.w v (corner_by r v)
unfolding corner_by
corner_near r v = go (eqb r.way 1)
  where
    go : (t : Bool)
        → Small (cond t (record { x = inward r.w r.x v.x; y = inward r.w r.y v.y }) (gone_by (step_of r v) v))
        → OffBy r.w v (cond t (record { x = inward r.w r.x v.x; y = inward r.w r.y v.y }) (gone_by (step_of r v) v))
    go true h = off (inward_near r.w r.x v.x) (inward_near r.w r.y v.y)
    go false h =
        let s = step_of r v in
        let n = step_narrow r v in
        off
        (gone_near r.w v.x s.east s.west n.east_most n.west_most h.width)
        (gone_near r.w v.y s.north s.south n.north_most n.south_most h.height)

-- ---- all corners

module _ (list : List ℕ) (r : Rule) (h : stay_by list r ≡ true) (i : ℕ) (l : i < length list / 2) where
  corner_on : Small (corner_by r (spot_at list i))
  unfolding stay_by
  corner_on =
      on_small _ (each_at (λ j. on_grid (corner_by r (spot_at list j))) 0 (length list / 2) i h (omega arith) (omega arith))

  at_is : spot_at (aside_by list r) i ≡ corner_by r (spot_at list i)
  at_is = spots_at (λ j. corner_by r (spot_at list j)) (length list / 2) i l

  near_by : OffBy r.w (spot_at list i) (spot_at (aside_by list r) i)
  near_by = subst (λ (u : Spot). OffBy r.w (spot_at list i) u) (sym at_is) (corner_near r (spot_at list i) corner_on)

  small_by : Small (spot_at (aside_by list r) i)
  small_by = subst Small (sym at_is) corner_on

pub aside_near : AsideIsNear
aside_near list from to how h i l = near_by list (rule_of list from to how) h i l

pub aside_length : AsideIsAsLong
aside_length list from to how = spots_length (λ j. corner_by (rule_of list from to how) (spot_at list j)) (length list / 2)

pub aside_small : AsideIsSmall
aside_small list from to how h i l =
    small_by list (rule_of list from to how) h i (omega (arith, aside_length list from to how, l))

-- ---- how 0

gone_still : (x : ℕ) → gone x 0 0 ≡ x
unfolding gone
gone_still x =
    let l : 0 ≤ x + 0 = omega arith in
    let e : x + 0 - 0 ≡ x = omega arith in
    rw (le-ltb (x + 0) 0 l) e

pub aside_as_it_is : AsideAsItIs
unfolding corner_by step_of way_of
aside_as_it_is list from to i l =
    spots_at (λ j. corner_by (rule_of list from to 0) (spot_at list j)) (length list / 2) i l
    ∙ rw (gone_still (spot_at list i).x, gone_still (spot_at list i).y)

-- a number of a list is that of another, if the point that it is of is
number_same : (xs ys : List ℕ) (i : ℕ) → spot_at xs (i / 2) ≡ spot_at ys (i / 2) → get_or xs i 0 ≡ get_or ys i 0
number_same xs ys i e =
    ⊎_elim
    (λ q. subst (λ (j : ℕ). get_or xs j 0 ≡ get_or ys j 0) q (ap (λ (v : Spot). v.x) e))
    (λ q.
    let r : 2 * (i / 2) + 1 ≡ i = omega arith in
    subst (λ (j : ℕ). get_or xs j 0 ≡ get_or ys j 0) r (ap (λ (v : Spot). v.y) e))
    (eq-or-lt_of_le {n = 2 * (i / 2)} {m = i} (omega arith))

-- so a list without half a point stays the same
pub aside_none : (list : List ℕ) (from to : Spot) → (k : ℕ) × (length list ≡ 2 * k) → aside list from to 0 ≡ list
aside_none list from to p =
    let long = aside_length list from to 0 in
    ext_get_or 0 (aside list from to 0) list (omega (arith, long, p.1))
    (λ i l. number_same (aside list from to 0) list i (aside_as_it_is list from to (i / 2) (omega (arith, l, long, p.1))))

all_each : (p : ℕ → Bool) (k n : ℕ) → ((i : ℕ) → i < k + n → p i ≡ true) → each p k n ≡ true
unfolding each
all_each p k zero h = refl
all_each p k (suc n) h = rw (h k (omega arith), all_each p (suc k) n (λ i l. h i (omega arith)))

pub stays_as_it_is : StaysAsItIs
unfolding stay_by corner_by step_of way_of on_grid
stays_as_it_is list from to small =
    all_each _ 0 (length list / 2)
    (λ i l.
    let v = small i (omega arith) in
    rw (gone_still (spot_at list i).x, gone_still (spot_at list i).y, le-leb _ 2000000 v.width, le-leb _ 2000000 v.height))
