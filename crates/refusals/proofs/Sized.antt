-- What lists that are not refused are known to be. Assumes nothing.
use Prim.Native.Nat.{ℕ, ◌%◌, ◌/◌, ◌≤◌}
use mathlib.Core.Path.{◌≡◌, refl, sym}
use mathlib.Core.Bool.{Bool, true, false, true≢false}
use mathlib.Core.List.{List}
use native.Mathlib.Omega.{arith}
use lib.ListN.{length}
use lib.Dec.{leb, eqb}
use lib.Ieee.{Float}
use borrow.Author.Tests.{eqb-true, leb-true}
use Rattle.refusals.specs.Refusals.{refused_length, refused_few, refused_many, passed, unless, first}
use Rattle.refusals.specs.Bounds.{coordinates}
use Rattle.plane.specs.declared.Point.{Point}
use Rattle.refusals.specs.Screens.{wrong_number, wrong_infinite, wrong_position, wrong_tolerance, wrong_fit}
use Rattle.refusals.specs.Lists.{Extent, list_fault, ring_extent, polygon_extent, points_extent}
use Rattle.refusals.specs.Rows.{of_ring, of_polygon, of_two_polygons, of_list, of_touching, of_moving, fit_lengths, fit_numbers, of_fit, of_rooms}
use Rattle.refusals.specs.Refusals.{Told}

-- an even length, of at most 512
pub record Sized (r : List Float) : Type 0 where
  pub even : length r % 2 ≡ 0
  pub most : length r ≤ 512

-- the same, of three vertices or more
pub record Polygon (r : List Float) : Type 0 where
  pub even : length r % 2 ≡ 0
  pub least : 6 ≤ length r
  pub most : length r ≤ 512

-- where a row passes, its first part does, and so does the rest
pub row_parts : (a b : Told) → passed (first a b) ≡ true → (passed a ≡ true) × (passed b ≡ true)
row_parts a b h = go (passed a) refl
  where
    go : (p : Bool) → passed a ≡ p → (passed a ≡ true) × (passed b ≡ true)
    go true e = (e, simp e at h)
    go false e = absurd (true≢false (sym (simp e at h)))

-- a test that gives a refusal holds where it passes
pub holds : (ok : Bool) (num at : ℕ) → eqb num 0 ≡ false → passed (unless ok num at) ≡ true → ok ≡ true
holds true num at z h = refl
holds false num at z h = cc (simp z at h)

-- a list without a fault
pub record Fine (e : Extent) : Type 0 where
  pub whole : e.size % e.width ≡ 0
  pub enough : e.least ≤ e.size / e.width
  pub within : e.size / e.width ≤ e.most

pub fine : (e : Extent) (at : ℕ) → passed (list_fault e at) ≡ true → Fine e
fine e at h =
    let entries = e.size / e.width in
    let few = unless (leb e.least entries) refused_few at in
    let many = unless (leb entries e.most) refused_many at in
    let p = row_parts (unless (eqb (e.size % e.width) 0) refused_length at) (first few many) h in
    let q = row_parts few many p.1 in
    record {
      whole = eqb-true _ _ (holds (eqb (e.size % e.width) 0) refused_length at refl p.0);
      enough = leb-true _ _ (holds (leb e.least entries) refused_few at refl q.0);
      within = leb-true _ _ (holds (leb entries e.most) refused_many at refl q.1);
    }

-- a ring, and a list of points, that are not refused
pub is_ring : (r : List Float) → passed (of_ring r) ≡ true → Sized r
unfolding of_ring
is_ring r h =
    let f = fine (ring_extent r) 0 (row_parts (list_fault (ring_extent r) 0) (wrong_number r) h).0 in
    record { even = f.whole; most = omega (arith, f.whole, f.within) }

pub is_list : (r : List Float) (tol : Float) → passed (of_list r tol) ≡ true → length r % 2 ≡ 0
unfolding of_list
is_list r tol h =
    (fine (points_extent r) 0 (row_parts (list_fault (points_extent r) 0) (first (wrong_infinite r) (wrong_tolerance tol)) h).0).whole

pub is_polygon : (r : List Float) → Fine (polygon_extent r) → Polygon r
is_polygon r f = record { even = f.whole; least = omega (arith, f.whole, f.enough); most = omega (arith, f.whole, f.within) }

-- a polygon that is not refused
pub one_polygon : (r : List Float) → passed (of_polygon r) ≡ true → Polygon r × (coordinates r ≡ true)
unfolding of_polygon
one_polygon r h =
    let p = row_parts (list_fault (polygon_extent r) 0) (wrong_number r) h in
    (is_polygon r (fine (polygon_extent r) 0 p.0), holds (coordinates r) 2 0 refl p.1)

-- two polygons that are not refused
module _ (a b : List Float) (h : passed (of_two_polygons a b) ≡ true) where
  parts : (passed (first (list_fault (polygon_extent a) 0) (list_fault (polygon_extent b) 1)) ≡ true) × (passed (first (wrong_number a) (wrong_number b)) ≡ true)
  unfolding of_two_polygons
  parts = row_parts (first (list_fault (polygon_extent a) 0) (list_fault (polygon_extent b) 1)) (first (wrong_number a) (wrong_number b)) h

  pub two_polygons : Polygon a × Polygon b
  two_polygons =
      let p = row_parts (list_fault (polygon_extent a) 0) (list_fault (polygon_extent b) 1) parts.0 in
      (is_polygon a (fine (polygon_extent a) 0 p.0), is_polygon b (fine (polygon_extent b) 1 p.1))

  pub two_bounded : (coordinates a ≡ true) × (coordinates b ≡ true)
  two_bounded =
      let q = row_parts (wrong_number a) (wrong_number b) parts.1 in
      (holds (coordinates a) 2 0 refl q.0, holds (coordinates b) 2 0 refl q.1)

-- where a row passes that begins with two polygons, they are polygons
module _ (a b : List Float) (tol : Float) {n : Told} {p : Bool} where
  pub touching_polygons : n ≡ of_touching a b tol → p ≡ passed n → p ≡ true → Polygon a × Polygon b
  unfolding of_touching
  touching_polygons e h t = two_polygons a b (row_parts (of_two_polygons a b) (wrong_tolerance tol) (rw (← e, ← h) t)).0

  pub moving_polygons : (q : Point) → n ≡ of_moving a b q tol → p ≡ passed n → p ≡ true → Polygon a × Polygon b
  unfolding of_moving
  moving_polygons q e h t =
      two_polygons a b (row_parts (of_two_polygons a b) (first (wrong_position q) (wrong_tolerance tol)) (rw (← e, ← h) t)).0

pub fit_polygons : (a b : List Float) (from : Point) (visited : List Float) (tol : Float) {n : Told} {p : Bool} → n ≡ of_fit a b from visited tol
    → p ≡ passed n → p ≡ true → Polygon a × Polygon b
unfolding of_fit fit_lengths
fit_polygons a b from visited tol e h t =
    let last = list_fault (points_extent visited) 2 in
    let lists = (row_parts (fit_lengths a b visited) (fit_numbers a b from visited tol) (rw (← e, ← h) t)).0 in
    let p = row_parts (list_fault (polygon_extent a) 0) (first (list_fault (polygon_extent b) 1) last) lists in
    let q = row_parts (list_fault (polygon_extent b) 1) last p.1 in
    (is_polygon a (fine (polygon_extent a) 0 p.0), is_polygon b (fine (polygon_extent b) 1 q.0))

-- both rooms are long enough
pub rooms_fit : (x s y t : ℕ) {m : Told} {q : Bool} → m ≡ of_rooms x s y t → q ≡ passed m → q ≡ true → (x ≤ s) × (y ≤ t)
unfolding of_rooms
rooms_fit x s y t e h z =
    let p = row_parts (wrong_fit x s) (wrong_fit y t) (rw (← e, ← h) z) in
    (leb-true _ _ (holds (leb x s) 5 0 refl p.0), leb-true _ _ (holds (leb y t) 5 0 refl p.1))
