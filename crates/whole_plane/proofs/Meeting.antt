-- The rule of `segments_intersect` in whole numbers holds exactly if the two closed segments have a point in common. Where the
-- rule holds, the turns or the box give the point's weights. Where there is such a point, a turn weighed by it is 0, so that
-- two ends lie on different sides, or one is the point, or all are in line. Assumes nothing.
use Prim.Native.Nat.{ℕ, ◌+◌, ◌*◌, ◌<◌}
use native.Mathlib.Omega.{arith}
use native.Mathlib.Nat.{mul-le-mul_left}
use mathlib.Core.Path.{◌≡◌, refl, sym, ap, ◌∙◌}
use mathlib.Core.Logic.{◌↔◌, inl, inr, ⊎_elim}
use mathlib.Core.Bool.{true, ◌||◌, or-true}
use lib.IntN.{ℤ}
use Rattle.laws.proofs.Both.{both, one_of}
use Rattle.segments.specs.Segments.{straddles_of, crosses_of}
use Rattle.shifted.specs.declared.Spot.{Spot}
use Rattle.whole_rules.specs.Segments.{left_of, right_of, whole_turn, whole_touches, whole_intersect}
use Rattle.whole_plane.specs.Plane.{Common, point_of}
use Rattle.whole_plane.proofs.Signs.{Turned, left, right, level, turn_is, Opposite, opposite}
use Rattle.whole_plane.proofs.Shared.{Shared, shared_common, common_shared, turned, exchanged}
use Rattle.whole_plane.proofs.Crossing.{balance, crossed}
use Rattle.whole_plane.proofs.Touching.{On, touch_on, boxed, touches, touch_is}
use Rattle.whole_plane.proofs.Line.{Meet, first, second, third, fourth, in_line}

-- ---- where the rule holds

-- the first end of a segment lies on the other
at_first : {a b c d : Spot} → On c d a → Shared a b c d
at_first h =
    record {
      s = 0;
      s' = h.t + h.t';
      t = h.t;
      t' = h.t';
      whole = omega arith;
      some = omega (arith, h.some);
      across = omega (arith, h.across);
      upward = omega (arith, h.upward);
    }

touched : {a b c d : Spot} → whole_touches (whole_turn c d a) c d a ≡ true → Shared a b c d
touched {a} {b} {c} {d} h = at_first (touch_on (touches c d a h))

meets : (a b c d : Spot) → whole_intersect a b c d ≡ true → Shared a b c d
unfolding whole_intersect crosses_of
meets a b c d h =
    let t1 = whole_touches (whole_turn c d a) c d a in
    let t2 = whole_touches (whole_turn c d b) c d b in
    let t3 = whole_touches (whole_turn a b c) a b c in
    let t4 = whole_touches (whole_turn a b d) a b d in
    let x = straddles_of (whole_turn c d a) (whole_turn c d b) in
    let y = straddles_of (whole_turn a b c) (whole_turn a b d) in
    ⊎_elim
    (λ e.
    let w = both x y e in
    crossed a b c d (opposite (turn_is c d a) (turn_is c d b) w.0) (opposite (turn_is a b c) (turn_is a b d) w.1))
    (λ e. ⊎_elim (λ f. touched f)
    (λ f. ⊎_elim (λ g. turned (touched g))
    (λ g. ⊎_elim (λ k. exchanged (touched k)) (λ k. exchanged (turned (touched k))) (one_of t3 t4 g))
    (one_of t2 (t3 || t4) f))
    (one_of t1 (t2 || (t3 || t4)) e))
    (one_of (crosses_of (whole_turn c d a) (whole_turn c d b) (whole_turn a b c) (whole_turn a b d)) (t1 || (t2 || (t3 || t4))) h)

-- ---- where there is a point in common

-- the turns of a and b about c d, weighed by the point, add up to none, since those of c and d do
gather : (s s' x y u v p q r : ℕ)
    → s' * (p * y + q * x + r) + s * (p * v + q * u + r) ≡ p * (s' * y + s * v) + q * (s' * x + s * u) + (s + s') * r
gather s s' x y u v p q r = omega arith

own : (t t' x y u v : ℕ)
    → u * (t' * y + t * v) + y * (t' * x + t * u) + (t + t') * (x * v)
    ≡ x * (t' * y + t * v) + v * (t' * x + t * u) + (t + t') * (u * y)
own t t' x y u v = omega arith

weighed : {a b c d : Spot} (h : Shared a b c d)
    → h.s' * left_of c d a + h.s * left_of c d b ≡ h.s' * right_of c d a + h.s * right_of c d b
weighed {a} {b} {c} {d} h =
    gather h.s h.s' a.x a.y b.x b.y d.x c.y (c.x * d.y)
    ∙ rw (h.upward, h.across, h.whole) (own h.t h.t' c.x c.y d.x d.y)
    ∙ sym (gather h.s h.s' a.x a.y b.x b.y c.x d.y (d.x * c.y))

-- how two ends lie whose turns, l - r of weight s' and l' - r' of weight s, add up to none
data Ends (s s' l r l' r' : ℕ) (d e : ℤ) : Type 0 where
  astride : Opposite l r l' r' → straddles_of d e ≡ true → Ends s s' l r l' r' d e
  at_one : l ≡ r → s ≡ 0 → Ends s s' l r l' r' d e
  at_other : l' ≡ r' → s' ≡ 0 → Ends s s' l r l' r' d e
  along : l ≡ r → l' ≡ r' → Ends s s' l r l' r' d e

-- one turn is none, and so is the weight of the other
none : (s s' l r l' r' : ℕ) → l ≡ r → r' < l' → s' * l + s * l' ≡ s' * r + s * r' → s ≡ 0
none s s' l r l' r' e h w =
    let m = mul-le-mul_left s h in
    let z : s' * l ≡ s' * r = ap (λ (i : ℕ). s' * i) e in
    omega arith

-- both are to the left: they do not add up to none
one_side : (s s' l r l' r' : ℕ) → 0 < s + s' → r < l → r' < l' → s' * l + s * l' ≡ s' * r + s * r' → ⊥
one_side s s' l r l' r' m h k e =
    let u = mul-le-mul_left s' h in
    let v = mul-le-mul_left s k in
    omega arith

ends : (s s' : ℕ) {l r l' r' : ℕ} {d e : ℤ} → 0 < s + s' → s' * l + s * l' ≡ s' * r + s * r' → Turned l r d → Turned l' r' e
    → Ends s s' l r l' r' d e
unfolding straddles_of
ends s s' m w (left h) (right k) = astride (inl (h, k)) refl
ends s s' m w (right h) (left k) = astride (inr (h, k)) refl
ends s s' m w (level h) (level k) = along h k
ends s s' {l} {r} {l'} {r'} m w (level h) (left k) = at_one h (none s s' l r l' r' h k w)
ends s s' {l} {r} {l'} {r'} m w (level h) (right k) = at_one h (none s s' r l r' l' (sym h) k (sym w))
ends s s' {l} {r} {l'} {r'} m w (left h) (level k) = at_other k (none s' s l' r' l r k h (omega arith))
ends s s' {l} {r} {l'} {r'} m w (right h) (level k) = at_other k (none s' s r' l' r l (sym k) h (omega arith))
ends s s' {l} {r} {l'} {r'} m w (left h) (left k) = absurd (one_side s s' l r l' r' m h k w)
ends s s' {l} {r} {l'} {r'} m w (right h) (right k) = absurd (one_side s s' r l r' l' m h k (sym w))

-- the weight of the other end is none: the point is this end
only : (s s' t t' a b k : ℕ) → s ≡ 0 → s + s' ≡ t + t' → s' * a + s * b ≡ k → (t + t') * a ≡ k
only s s' t t' a b k e h m =
    let u : s * b ≡ 0 * b = ap (λ (z : ℕ). z * b) e in
    let v : s * a ≡ 0 * a = ap (λ (z : ℕ). z * a) e in
    let w : (s + s') * a ≡ (t + t') * a = ap (λ (z : ℕ). z * a) h in
    omega arith

first_on : {a b c d : Spot} (h : Shared a b c d) → h.s ≡ 0 → On c d a
first_on {a} {b} {c} {d} h e =
    record {
      t = h.t;
      t' = h.t';
      some = omega (arith, h.some, h.whole);
      across = only h.s h.s' h.t h.t' a.x b.x _ e h.whole h.across;
      upward = only h.s h.s' h.t h.t' a.y b.y _ e h.whole h.upward;
    }

-- ---- as the rule has it

by_end : (a b c d : Spot) → Meet a b c d → whole_intersect a b c d ≡ true
unfolding whole_intersect
by_end a b c d (first h) = simp (touch_is c d a h, or-true)
by_end a b c d (second h) = simp (touch_is c d b h, or-true)
by_end a b c d (third h) = simp (touch_is a b c h, or-true)
by_end a b c d (fourth h) = simp (touch_is a b d h, or-true)

by_crossing : (a b c d : Spot) → straddles_of (whole_turn c d a) (whole_turn c d b) ≡ true
    → straddles_of (whole_turn a b c) (whole_turn a b d) ≡ true → whole_intersect a b c d ≡ true
unfolding whole_intersect crosses_of
by_crossing a b c d h k = rw (h, k)

-- one segment is in line with the other, which is astride of it: the turns do not add up
never : {l1 r1 l2 r2 l3 r3 l4 r4 : ℕ} → l1 ≡ r1 → l2 ≡ r2 → Opposite l3 r3 l4 r4 → l1 + r2 + (l3 + r4) ≡ r1 + l2 + (r3 + l4) → ⊥
never h k (inl (m, n)) e = omega arith
never h k (inr (m, n)) e = omega arith

module _ (a b c d : Spot) (h : Shared a b c d) where
  -- the ends of the one about the other
  abbrev First : Type 0
  First = Ends h.s h.s' (left_of c d a) (right_of c d a) (left_of c d b) (right_of c d b) (whole_turn c d a) (whole_turn c d b)

  abbrev Second : Type 0
  Second = Ends h.t h.t' (left_of a b c) (right_of a b c) (left_of a b d) (right_of a b d) (whole_turn a b c) (whole_turn a b d)

  by_ends : First → Second → whole_intersect a b c d ≡ true
  by_ends (at_one e f) q = by_end a b c d (first (boxed e (first_on h f)))
  by_ends (at_other e f) q = by_end a b c d (second (boxed e (first_on (turned h) f)))
  by_ends (astride o e) (at_one f g) = by_end a b c d (third (boxed f (first_on (exchanged h) g)))
  by_ends (along e f) (at_one g i) = by_end a b c d (third (boxed g (first_on (exchanged h) i)))
  by_ends (astride o e) (at_other f g) = by_end a b c d (fourth (boxed f (first_on (turned (exchanged h)) g)))
  by_ends (along e f) (at_other g i) = by_end a b c d (fourth (boxed g (first_on (turned (exchanged h)) i)))
  by_ends (astride o e) (astride p f) = by_crossing a b c d e f
  by_ends (along e f) (along g i) =
      by_end a b c d (in_line a b c d h (record { first_is = e; second_is = f; third_is = g; fourth_is = i }))
  by_ends (along e f) (astride p g) = absurd (never e f p (balance a b c d))
  by_ends (astride o e) (along f g) = absurd (never f g o (balance c d a b))

  is_met : whole_intersect a b c d ≡ true
  is_met =
      let k : 0 < h.t + h.t' = omega (arith, h.some, h.whole) in
      by_ends (ends h.s h.s' h.some (weighed h) (turn_is c d a) (turn_is c d b))
      (ends h.t h.t' k (weighed (exchanged h)) (turn_is a b c) (turn_is a b d))

-- the rule holds exactly if there is a point in common
pub intersect_exactly : (a b c d : Spot) → whole_intersect a b c d ≡ true ↔ Common (point_of a) (point_of b) (point_of c) (point_of d)
intersect_exactly a b c d = (λ h. shared_common (meets a b c d h), λ h. is_met a b c d (common_shared h))
