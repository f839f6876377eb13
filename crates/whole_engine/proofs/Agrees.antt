-- The float calls on whole coordinates and the calls in whole numbers answer alike, refusals included. Assumes nothing.
use Prim.Native.Nat.{ℕ, ◌/◌, ◌≤◌}
use native.Mathlib.Omega.{arith}
use mathlib.Core.Path.{◌≡◌, refl, sym, ap, subst, ◌∙◌}
use mathlib.Core.Bool.{Bool, true, false, ◌&&◌, cond}
use mathlib.Core.List.{List, [], ◌∷◌}
use lib.ListN.{length}
use lib.Dec.{lit<}
use lib.IntN.{ℤ, pos, negsuc}
use lib.Ieee.{Float, lt}
use Rattle.plane.specs.Vector.{turn_of}
use Rattle.plane.specs.declared.Point.{Point}
use Rattle.ring.specs.Ring.{count}
use Rattle.scalar.specs.Float.{f0}
use Rattle.refusals.specs.Answers.{outcome}
use Rattle.refusals.specs.Refusals.{refused_number, passed, unless, first}
use Rattle.refusals.specs.Rows.{of_points3, of_points4, of_ring}
use Rattle.refusals.specs.Refusals.{Told}
use Rattle.segments.specs.Calls.{orientation_call, on_segment_call, intersect_call}
use Rattle.simple_polygon.specs.Calls.{is_simple_call}
use Rattle.signed_area.specs.Area.{area2_of}
use Rattle.signed_area.specs.Calls.{area2_call}
use Rattle.shifted.specs.Shifted.{in_bounds, spot_of, spot_in}
use Rattle.whole_rules.specs.Spots.{Placed}
use Rattle.whole_rules.specs.Segments.{whole_turn}
use Rattle.whole_rules.specs.Simple.{whole_simple}
use Rattle.whole_rules.specs.Area.{whole_area2, WholeArea2}
use Rattle.whole_rules.proofs.Segments.{turns_left, turns_right, orientation, on_segment, intersect}
use Rattle.whole_rules.proofs.Simple.{simple}
use Rattle.whole_rules.proofs.Area.{area_is, area_number, area_bits}
use Rattle.whole_engine.specs.Rows.{all_in_bounds, wrong_whole, of_whole_ring}
use Rattle.whole_engine.specs.Calls.{whole_turn_call, whole_orientation_call, whole_on_segment_call, whole_intersect_call, whole_simple_call, whole_area2_call}
use Rattle.whole_engine.specs.Drawn.{DrawnPoint, Drawn, SameNumber, answered, refused}
use Rattle.whole_engine.proofs.Passed.{all_within, ring_within}
use Rattle.whole_engine.proofs.Standing.{same_bounds, stands, same_length, same_numbers, ring_stands}
use Rattle.whole_engine.proofs.Within.{within_at}

-- the same refusal, and the same answer where there is none
alike : {A : Type 0} (r s : Told) (a b : A) → r ≡ s → (passed s ≡ true → a ≡ b) → outcome r a ≡ outcome s b
alike {A} r s a b e h = ap (λ (t : Told). outcome t a) e ∙ go (passed s) refl
  where
    go : (p : Bool) → passed s ≡ p → outcome s a ≡ outcome s b
    go true q = rw (h q)
    go false q = rw q

-- ---- points

-- the tests of three points one after the other, and those of six numbers
three : (a b c d e f : Bool)
    → first (unless (a && b) refused_number 0) (first (unless (c && d) refused_number 0) (unless (e && f) refused_number 0))
    ≡ unless (a && (b && (c && (d && (e && (f && true)))))) refused_number 0
three false b c d e f = refl
three true false c d e f = refl
three true true false d e f = refl
three true true true false e f = refl
three true true true true false f = refl
three true true true true true false = refl
three true true true true true true = refl

four : (a b c d e f g h : Bool)
    → first (unless (a && b) refused_number 0)
    (first (unless (c && d) refused_number 0) (first (unless (e && f) refused_number 0) (unless (g && h) refused_number 0)))
    ≡ unless (a && (b && (c && (d && (e && (f && (g && (h && true)))))))) refused_number 0
four false b c d e f g h = refl
four true false c d e f g h = refl
four true true false d e f g h = refl
four true true true false e f g h = refl
four true true true true false f g h = refl
four true true true true true false g h = refl
four true true true true true true false h = refl
four true true true true true true true false = refl
four true true true true true true true true = refl

module _ (a b c : Point) (ax ay bx by cx cy : ℤ) (A : DrawnPoint a ax ay) (B : DrawnPoint b bx by) (C : DrawnPoint c cx cy) where
  same_refusal : of_points3 a b c ≡ wrong_whole (ax ∷ ay ∷ bx ∷ by ∷ cx ∷ cy ∷ [])
  unfolding of_points3 all_in_bounds
  same_refusal =
      rw (
        same_bounds a.x ax A.0,
        same_bounds a.y ay A.1,
        same_bounds b.x bx B.0,
        same_bounds b.y by B.1,
        same_bounds c.x cx C.0,
        same_bounds c.y cy C.1,
      )
      (three (in_bounds ax) (in_bounds ay) (in_bounds bx) (in_bounds by) (in_bounds cx) (in_bounds cy))

  placed : passed (wrong_whole (ax ∷ ay ∷ bx ∷ by ∷ cx ∷ cy ∷ [])) ≡ true
      → Placed a (spot_of ax ay) × Placed b (spot_of bx by) × Placed c (spot_of cx cy)
  placed p =
      let l = ax ∷ ay ∷ bx ∷ by ∷ cx ∷ cy ∷ [] in
      let w = all_within l p in (
        stands a ax ay A (within_at l 0 w (lit< tt)) (within_at l 1 w (lit< tt)),
        stands b bx by B (within_at l 2 w (lit< tt)) (within_at l 3 w (lit< tt)),
        stands c cx cy C (within_at l 4 w (lit< tt)) (within_at l 5 w (lit< tt)),
      )

  -- the side of 0.0 on which the float turn lies
  pub turn_agrees :
      outcome (of_points3 a b c) (cond (lt f0 (turn_of a b c)) (pos 1) (cond (lt (turn_of a b c) f0) (negsuc 0) (pos 0)))
      ≡ whole_turn_call ax ay bx by cx cy
  unfolding whole_turn
  turn_agrees =
      alike _ _ _ _ same_refusal
      (λ p. let q = placed p in rw (turns_left a b c _ _ _ q.0 q.1 q.2, turns_right a b c _ _ _ q.0 q.1 q.2))

  pub orientation_agrees : orientation_call a b c ≡ whole_orientation_call ax ay bx by cx cy
  orientation_agrees = alike _ _ _ _ same_refusal (λ p. let q = placed p in orientation a b c _ _ _ q.0 q.1 q.2)

  pub on_segment_agrees : on_segment_call a b c ≡ whole_on_segment_call ax ay bx by cx cy
  on_segment_agrees = alike _ _ _ _ same_refusal (λ p. let q = placed p in on_segment a b c _ _ _ q.0 q.1 q.2)

module _ (a b c d : Point) (x1 y1 x2 y2 x3 y3 x4 y4 : ℤ)
    (A : DrawnPoint a x1 y1) (B : DrawnPoint b x2 y2) (C : DrawnPoint c x3 y3) (D : DrawnPoint d x4 y4) where
  same_refusal4 : of_points4 a b c d ≡ wrong_whole (x1 ∷ y1 ∷ x2 ∷ y2 ∷ x3 ∷ y3 ∷ x4 ∷ y4 ∷ [])
  unfolding of_points4 all_in_bounds
  same_refusal4 =
      rw (
        same_bounds a.x x1 A.0,
        same_bounds a.y y1 A.1,
        same_bounds b.x x2 B.0,
        same_bounds b.y y2 B.1,
        same_bounds c.x x3 C.0,
        same_bounds c.y y3 C.1,
        same_bounds d.x x4 D.0,
        same_bounds d.y y4 D.1,
      )
      (four (in_bounds x1) (in_bounds y1) (in_bounds x2) (in_bounds y2) (in_bounds x3) (in_bounds y3) (in_bounds x4) (in_bounds y4))

  pub intersect_agrees : intersect_call a b c d ≡ whole_intersect_call x1 y1 x2 y2 x3 y3 x4 y4
  intersect_agrees =
      alike _ _ _ _ same_refusal4
      (λ p.
      let l = x1 ∷ y1 ∷ x2 ∷ y2 ∷ x3 ∷ y3 ∷ x4 ∷ y4 ∷ [] in
      let w = all_within l p in
      intersect a b c d _ _ _ _
      (stands a x1 y1 A (within_at l 0 w (lit< tt)) (within_at l 1 w (lit< tt)))
      (stands b x2 y2 B (within_at l 2 w (lit< tt)) (within_at l 3 w (lit< tt)))
      (stands c x3 y3 C (within_at l 4 w (lit< tt)) (within_at l 5 w (lit< tt)))
      (stands d x4 y4 D (within_at l 6 w (lit< tt)) (within_at l 7 w (lit< tt))))

-- ---- rings

module _ (r : List Float) (zs : List ℤ) (D : Drawn r zs) where
  same_row : of_ring r ≡ of_whole_ring zs
  unfolding of_ring of_whole_ring
  same_row = rw (same_length r zs D, same_numbers r zs D)

  same_count : count r ≡ length zs / 2
  same_count = ap (λ (n : ℕ). n / 2) (same_length r zs D)

  pub simple_agrees : is_simple_call r ≡ whole_simple_call zs
  simple_agrees =
      alike _ _ _ _ same_row
      (λ p.
      let w = ring_within zs p in
      simple r (spot_in zs) (ring_stands r zs D w.1) ∙ ap (whole_simple (spot_in zs)) same_count)

  pub area_agrees : SameNumber (area2_call r) (whole_area2_call zs)
  area_agrees =
      subst (λ (s : Told). SameNumber (outcome s (area2_of r)) (whole_area2_call zs)) (sym same_row)
      (go (passed (of_whole_ring zs)) refl)
    where
      go : (p : Bool) → passed (of_whole_ring zs) ≡ p → SameNumber (outcome (of_whole_ring zs) (area2_of r)) (whole_area2_call zs)
      go true q =
          let w = ring_within zs q in
          let at = spot_in zs in
          let P = ring_stands r zs D w.1 in
          let few : count r ≤ 256 = omega (arith, same_length r zs D, w.0) in
          let z = whole_area2 at (length zs / 2) in
          let is : WholeArea2 at (count r) z = subst (λ (n : ℕ). WholeArea2 at n z) (sym same_count) (area_is at (length zs / 2)) in
          rw q (answered (area_number r at P few z is) (area_bits r at P few z is))
      go false q = rw q refused
