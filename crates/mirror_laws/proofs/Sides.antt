-- Mirrored segments meet exactly if the segments do: each turn is opposite, so that of two the one is on the left where the other was on
-- the right, and a box lies about a mirrored point as about the point. Assumes nothing.
use mathlib.Core.Path.{◌≡◌, refl, sym, ap, ap₂, ◌∙◌}
use mathlib.Core.Bool.{Bool, true, false, ◌&&◌, ◌||◌, cond, true≢false, and_comm, or_comm}
use lib.IntN.{ℤ, pos, negsuc}
use lib.Ieee.{Float, fin, lt, le, neg, sub, of_bits}
use Rattle.scalar.specs.Float.{◌⊕◌, ◌⊖◌, ◌⊗◌}
use Rattle.scalar.specs.Scalar.{smaller_of, larger_of}
use Rattle.laws.proofs.Order.{le_of_lt, lt_le}
use Rattle.plane.specs.Vector.{minus_of, cross_of, turn_of}
use Rattle.plane.specs.declared.Point.{Point}
use Rattle.refusals.specs.Bounds.{point_ok}
use Rattle.refusals.specs.Rows.{of_points4}
use Rattle.segments.specs.Segments.{eps, sign_of, orientation_of, between_of, on_segment_of, counter_clockwise, clockwise, collinear, straddles_of, crosses_of, touches_of, intersect_of}
use Rattle.segments.specs.Calls.{intersect_call}
use Rattle.mirror_laws.specs.Mirrored.{mirrored_point, Opposite, turned, zeros}
use Rattle.mirror_laws.proofs.Twice.{neg_neg, coordinate_neg}
use Rattle.mirror_laws.proofs.Opposite.{back, add_opposite, sub_opposite, mul_opposite, mul_back, lt_neg, le_opposite, opposite_le, smaller_neg, larger_neg}

-- ---- turns

-- a product with the opposite number on the right
right_opposite : {x x' : Float} (y : Float) → Opposite x x' → Opposite (y ⊗ x) (y ⊗ x')
right_opposite {x} {x'} y O = rw (mul_back y x, mul_back y x') (mul_opposite y O)

turn_opposite : (a b c : Point) → Opposite (turn_of a b c) (turn_of (mirrored_point a) (mirrored_point b) (mirrored_point c))
unfolding turn_of cross_of minus_of
turn_opposite a b c =
    sub_opposite (mul_opposite (c.y ⊖ a.y) (sub_opposite (turned b.x) (turned a.x)))
    (right_opposite (b.y ⊖ a.y) (sub_opposite (turned c.x) (turned a.x)))

-- left for right
pub record Sides (d e : ℤ) : Type 0 where
  pub left : counter_clockwise e ≡ clockwise d
  pub right : clockwise e ≡ counter_clockwise d
  pub level : collinear e ≡ collinear d

by_tests : (p q : Bool) → (p ≡ true → q ≡ true → ⊥)
    → Sides (cond p (pos 1) (cond q (negsuc 0) (pos 0))) (cond q (pos 1) (cond p (negsuc 0) (pos 0)))
by_tests true true h = absurd (h refl refl)
by_tests true false h = record { left = refl; right = refl; level = refl }
by_tests false true h = record { left = refl; right = refl; level = refl }
by_tests false false h = record { left = refl; right = refl; level = refl }

margins_apart : lt eps (neg eps) ≡ false
unfolding lt neg of_bits
margins_apart = refl

zero_level : (s : Bool) → sign_of (fin s 0 (pos 0)) ≡ pos 0
unfolding sign_of lt neg of_bits
zero_level true = refl
zero_level false = refl

sign_turned : (x : Float) → Sides (sign_of x) (sign_of (neg x))
unfolding sign_of
sign_turned x =
    let p : lt eps (neg x) ≡ lt x (neg eps) = ap (λ (m : Float). lt m (neg x)) (sym (neg_neg eps)) ∙ lt_neg (neg eps) x in
    rw (p, lt_neg x eps)
    (by_tests (lt eps x) (lt x (neg eps)) (λ h k. true≢false (sym (lt_le eps x (neg eps) h (le_of_lt x (neg eps) k)) ∙ margins_apart)))

sign_opposite : {x x' : Float} → Opposite x x' → Sides (sign_of x) (sign_of x')
sign_opposite (turned x) = sign_turned x
sign_opposite (zeros s t) = rw (zero_level s, zero_level t) (record { left = refl; right = refl; level = refl })

sides : (a b c : Point) → Sides (orientation_of a b c) (orientation_of (mirrored_point a) (mirrored_point b) (mirrored_point c))
unfolding orientation_of
sides a b c = sign_opposite (turn_opposite a b c)

straddles_mirrored : {d d' e e' : ℤ} → Sides d d' → Sides e e' → straddles_of d' e' ≡ straddles_of d e
unfolding straddles_of
straddles_mirrored {d} {d'} {e} {e'} D E =
    rw (D.left, D.right, E.left, E.right) (or_comm (clockwise d && counter_clockwise e) (counter_clockwise d && clockwise e))

-- ---- boxes

between_mirrored : (a b p : Float) → between_of (neg a) (neg b) (neg p) ≡ between_of a b p
unfolding between_of sub
between_mirrored a b p =
    rw (smaller_neg a b, larger_neg a b)
    (ap₂ (λ (s t : Bool). s && t)
    (le_opposite (add_opposite (turned (larger_of a b)) (turned eps)) p)
    (opposite_le (add_opposite (turned (smaller_of a b)) (back (turned eps))) p)
    ∙ and_comm (le p (larger_of a b ⊕ eps)) (le (smaller_of a b ⊖ eps) p))

on_mirrored : (a b p : Point) → on_segment_of (mirrored_point a) (mirrored_point b) (mirrored_point p) ≡ on_segment_of a b p
unfolding on_segment_of
on_mirrored a b p = ap (λ (t : Bool). t && between_of a.y b.y p.y) (between_mirrored a.x b.x p.x)

touches_mirrored : {d d' : ℤ} (a b p : Point) → Sides d d'
    → touches_of d' (mirrored_point a) (mirrored_point b) (mirrored_point p) ≡ touches_of d a b p
unfolding touches_of
touches_mirrored a b p D = ap₂ (λ (s t : Bool). s && t) D.level (on_mirrored a b p)

-- ---- segments

pub intersect_mirrored : (p1 p2 p3 p4 : Point)
    → intersect_of (mirrored_point p1) (mirrored_point p2) (mirrored_point p3) (mirrored_point p4) ≡ intersect_of p1 p2 p3 p4
unfolding intersect_of crosses_of
intersect_mirrored p1 p2 p3 p4 =
    let d1 = sides p3 p4 p1 in
    let d2 = sides p3 p4 p2 in
    let d3 = sides p1 p2 p3 in
    let d4 = sides p1 p2 p4 in
    ap₂ (λ (s t : Bool). s || t)
    (ap₂ (λ (s t : Bool). s && t) (straddles_mirrored d1 d2) (straddles_mirrored d3 d4))
    (ap₂ (λ (s t : Bool). s || t) (touches_mirrored p3 p4 p1 d1)
    (ap₂ (λ (s t : Bool). s || t) (touches_mirrored p3 p4 p2 d2)
    (ap₂ (λ (s t : Bool). s || t) (touches_mirrored p1 p2 p3 d3) (touches_mirrored p1 p2 p4 d4))))

point_mirrored : (p : Point) → point_ok (mirrored_point p) ≡ point_ok p
point_mirrored p = rw (coordinate_neg p.x) refl

-- `segments_intersect` of mirrored segments, refused coordinates too
pub intersect_call_mirrored : (p1 p2 p3 p4 : Point)
    → intersect_call (mirrored_point p1) (mirrored_point p2) (mirrored_point p3) (mirrored_point p4) ≡ intersect_call p1 p2 p3 p4
unfolding of_points4
intersect_call_mirrored p1 p2 p3 p4 =
    rw (point_mirrored p1, point_mirrored p2, point_mirrored p3, point_mirrored p4, intersect_mirrored p1 p2 p3 p4) refl
