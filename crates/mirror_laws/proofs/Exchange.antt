-- Two rings, or two segments, exchanged: `ring_distance` and `segments_intersect` answer the same, bit for bit. Assumes nothing.
use Prim.Native.Nat.{ℕ, zero, suc, ◌%◌, ◌/◌}
use native.Mathlib.Omega.{arith}
use mathlib.Core.Path.{◌≡◌, refl, sym, ap, ap₂, ◌∙◌}
use mathlib.Core.Bool.{Bool, true, false, ◌&&◌, ◌||◌, cond, true≢false, and_comm, or_comm, or_assoc}
use mathlib.Core.List.{List}
use lib.Dec.{leb, eqb}
use lib.Ieee.{Float, lt}
use borrow.Author.Tests.{ne_eqb}
use Rattle.laws.proofs.Order.{lt_asym}
use Rattle.plane.specs.Vector.{root}
use Rattle.plane.specs.declared.Point.{Point}
use Rattle.ring.specs.Ring.{count}
use Rattle.refusals.specs.Refusals.{unless, first}
use Rattle.refusals.specs.Bounds.{coordinates, point_ok}
use Rattle.refusals.specs.Screens.{wrong_number}
use Rattle.refusals.specs.Lists.{Extent, list_fault, ring_extent}
use Rattle.refusals.specs.Rows.{of_two_rings, of_points4}
use Rattle.refusals.specs.Answers.{outcome}
use Rattle.refusals.specs.Refusals.{Told}
use Rattle.segments.specs.Segments.{orientation_of, straddles_of, crosses_of, touches_of, intersect_of}
use Rattle.segments.specs.Calls.{intersect_call}
use Rattle.ring_distance.specs.Distance.{ring_distance_of}
use Rattle.ring_distance.specs.Squared.{nearer_of, Square}
use Rattle.ring_distance.specs.Calls.{ring_distance_call}
use Rattle.ring_distance.proofs.Roots.{same, nearer_root}
use Rattle.ring_distance.proofs.Turns.{squares_way}
use Rattle.mirror_laws.specs.Exchanged.{fault_number, Exchanged}

-- ---- the distance: each way's is the root of a square, so that the smaller of the two does not depend on their order

nearer_exchanged : (s t : Float) → Square s → Square t → nearer_of s t ≡ nearer_of t s
nearer_exchanged s t S R = by (lt t s) refl (lt s t) refl
  where
    by : (x : Bool) → lt t s ≡ x → (y : Bool) → lt s t ≡ y → cond x t s ≡ cond y s t
    by true h true k = absurd (true≢false (sym k ∙ lt_asym t s h))
    by true h false k = refl
    by false h true k = refl
    by false h false k = same s t S R k h

pub distance_exchanged : (a b : List Float) → ring_distance_of b a ≡ ring_distance_of a b
unfolding ring_distance_of
distance_exchanged a b =
    let x = squares_way a b (count a) in
    let y = squares_way b a (count b) in
    sym (nearer_root y x) ∙ ap root (nearer_exchanged _ _ y.square x.square) ∙ nearer_root x y

-- ---- the refusals of two lists

abbrev faulty : ℕ → ℕ → Told
faulty num at = unless (eqb num 0) num at

-- a fault's number does not depend on the place
fault_is : (e : Extent) (at : ℕ) → list_fault e at ≡ faulty (fault_number e) at
fault_is e at = by (eqb (e.size % e.width) 0) (leb e.least (e.size / e.width)) (leb (e.size / e.width) e.most)
  where
    row : Bool → Bool → Bool → ℕ → Told
    row a b c at = first (unless a 1 at) (first (unless b 8 at) (unless c 9 at))

    by : (a b c : Bool) → row a b c at ≡ faulty (row a b c 0).number at
    by true true true = refl
    by true true false = refl
    by true false c = refl
    by false b c = refl

either_order : (s t : Bool) → first (unless s 2 0) (unless t 2 0) ≡ first (unless t 2 0) (unless s 2 0)
either_order true true = refl
either_order true false = refl
either_order false true = refl
either_order false false = refl

by_faults : {A : Type 0} (n m : ℕ) (w w' : Told) (v v' : A) → w' ≡ w → v' ≡ v
    → Exchanged n m (outcome (first (first (faulty n 0) (faulty m 1)) w) v) (outcome (first (first (faulty m 0) (faulty n 1)) w') v')
by_faults zero zero w w' v v' e f = rw (e, f) refl
by_faults (suc n) zero w w' v v' e f = let z = ne_eqb (suc n) 0 (λ q. omega arith) in (simp z, simp z)
by_faults zero (suc m) w w' v v' e f = let z = ne_eqb (suc m) 0 (λ q. omega arith) in (simp z, simp z)
by_faults (suc n) (suc m) w w' v v' e f =
    let y = ne_eqb (suc n) 0 (λ q. omega arith) in
    let z = ne_eqb (suc m) 0 (λ q. omega arith) in
    (simp (y, z), simp (y, z))

-- `ring_distance` with its rings exchanged
pub distance_call_exchanged : (a b : List Float)
    → Exchanged (fault_number (ring_extent a)) (fault_number (ring_extent b)) (ring_distance_call a b) (ring_distance_call b a)
unfolding of_two_rings
distance_call_exchanged a b =
    rw (fault_is (ring_extent a) 0, fault_is (ring_extent a) 1, fault_is (ring_extent b) 0, fault_is (ring_extent b) 1)
    (by_faults (fault_number (ring_extent a)) (fault_number (ring_extent b)) (first (wrong_number a) (wrong_number b))
    (first (wrong_number b) (wrong_number a))
    (ring_distance_of a b) (ring_distance_of b a) (either_order (coordinates b) (coordinates a)) (distance_exchanged a b))

-- ---- two segments

any_order : (x y a b c d : Bool) → (y && x || (c || (d || (a || b)))) ≡ (x && y || (a || (b || (c || d))))
any_order x y a b c d =
    ap₂ (λ (p q : Bool). p || q) (and_comm y x) (sym (or_assoc c d (a || b)) ∙ or_comm (c || d) (a || b) ∙ or_assoc a b (c || d))

pub intersect_exchanged : (p1 p2 p3 p4 : Point) → intersect_of p3 p4 p1 p2 ≡ intersect_of p1 p2 p3 p4
unfolding intersect_of crosses_of
intersect_exchanged p1 p2 p3 p4 =
    let d1 = orientation_of p3 p4 p1 in
    let d2 = orientation_of p3 p4 p2 in
    let d3 = orientation_of p1 p2 p3 in
    let d4 = orientation_of p1 p2 p4 in
    any_order (straddles_of d1 d2) (straddles_of d3 d4) (touches_of d1 p3 p4 p1) (touches_of d2 p3 p4 p2) (touches_of d3 p1 p2 p3)
    (touches_of d4 p1 p2 p4)

points_exchanged : (a b c d : Bool)
    → first (unless c 2 0) (first (unless d 2 0) (first (unless a 2 0) (unless b 2 0))) ≡ first (unless a 2 0)
    (first (unless b 2 0) (first (unless c 2 0) (unless d 2 0)))
points_exchanged true true true true = refl
points_exchanged true true true false = refl
points_exchanged true true false d = refl
points_exchanged true false true true = refl
points_exchanged true false true false = refl
points_exchanged true false false d = refl
points_exchanged false b true true = refl
points_exchanged false b true false = refl
points_exchanged false b false d = refl

-- `segments_intersect` with its segments exchanged, refused coordinates too
pub intersect_call_exchanged : (p1 p2 p3 p4 : Point) → intersect_call p3 p4 p1 p2 ≡ intersect_call p1 p2 p3 p4
unfolding of_points4
intersect_call_exchanged p1 p2 p3 p4 =
    ap₂ (λ (r : Told) (v : Bool). outcome r v) (points_exchanged (point_ok p1) (point_ok p2) (point_ok p3) (point_ok p4))
    (intersect_exchanged p1 p2 p3 p4)
