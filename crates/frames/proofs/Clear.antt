-- A point that lies apart from an edge by their bounds is not near it: along one axis the foot is farther from it than twice the tolerance, the square of that is not above the sum of
-- both squares, and no root of such a sum is below the tolerance. Assumes nothing.
use Prim.Native.Nat.{ℕ, ◌*◌}
use native.Mathlib.Nat.{add_comm, mul_comm}
use mathlib.Core.Path.{◌≡◌, refl, sym, ap, ◌∙◌, subst}
use mathlib.Core.Logic.{◌⊎◌, inl, inr}
use mathlib.Core.Bool.{Bool, true, false, ◌&&◌, cond, true≢false}
use lib.Dec.{T, ltb}
use lib.Ieee.{Float, nan, inf, fin, binary64, up, down, fits, neg, of_bits, add, sum, mul, lt, le}
use lib.Ieee.Fits.{sub-fits, mul-fits}
use lib.Ieee.Positive.{positive, above_of_le, mul_mono}
use Rattle.laws.proofs.Both.{both, one_of}
use Rattle.laws.proofs.Order.{lt_le, lt_nan, not_less, le_of_infinity, le_of_lt, lt_irrefl}
use Rattle.laws.proofs.Plain.{Plain, infinite, number, round_plain, square_plain, to_nan, from_nan}
use Rattle.scalar.specs.Float.{f0, f1, ◌⊕◌, ◌⊖◌, ◌⊗◌}
use Rattle.scalar.specs.Scalar.{clamp_of}
use Rattle.square_root.specs.Root.{sqrt_of}
use Rattle.square_root.proofs.Compare.{number_or_infinite, above_zero}
use Rattle.plane.specs.Vector.{minus_of, plus_of, dot_of, length_of, distance_of}
use Rattle.plane.specs.Segment.{clamped_foot, project_of, along_of, to_segment_of, near_segment_of, f1e_20}
use Rattle.plane.specs.declared.Point.{Point}
use Rattle.near.proofs.Below.{no_root}
use Rattle.frames.specs.Frame.{Inside, Spans, wide, margin_of, beyond, apart, past}
use Rattle.frames.specs.declared.Frame.{Frame}
use Rattle.frames.proofs.Sums.{rises}
use Rattle.frames.proofs.Beyond.{Far, by_low, by_high}

-- ---- squares

-- either sign has the same
pub square_turned : (x : Float) → neg x ⊗ neg x ≡ x ⊗ x
unfolding mul neg
square_turned nan = refl
square_turned (inf true) = refl
square_turned (inf false) = refl
square_turned (fin true m e) = refl
square_turned (fin false m e) = refl

less_turned : (x y : Float) → lt x (neg y) ≡ lt y (neg x)
unfolding lt neg
less_turned nan nan = refl
less_turned nan (inf s) = refl
less_turned nan (fin s m e) = refl
less_turned (inf s) nan = refl
less_turned (fin s m e) nan = refl
less_turned (inf true) (inf true) = refl
less_turned (inf true) (inf false) = refl
less_turned (inf false) (inf true) = refl
less_turned (inf false) (inf false) = refl
less_turned (inf true) (fin t n d) = refl
less_turned (inf false) (fin t n d) = refl
less_turned (fin s m e) (inf true) = refl
less_turned (fin s m e) (inf false) = refl
less_turned (fin false m e) (fin false n d) = refl
less_turned (fin false m e) (fin true n d) = refl
less_turned (fin true m e) (fin false n d) = refl
less_turned (fin true m e) (fin true n d) = ap (λ (z : ℕ). ltb 0 z) (add_comm (m * up e * down d) (n * up d * down e))

infinite_square : inf false ⊗ inf false ≡ inf false
unfolding mul
infinite_square = refl

up_to_infinity : (x : Float) → Plain x → T (le x (inf false))
unfolding le
up_to_infinity x infinite = tt
up_to_infinity x (number m e) = tt

plain_of : (x : Float) → T (positive x) → Plain (x ⊗ x)
unfolding mul
plain_of nan P = absurd P
plain_of (inf s) P = absurd P
plain_of (fin true m e) P = absurd P
plain_of (fin false m e) P = round_plain binary64 (m * up e * (m * up e)) (down e * down e)

module _ (far : Float) (F : lt f0 far ≡ true) where
  pub square_mono : (x : Float) → T (le far x) → T (le (far ⊗ far) (x ⊗ x))
  square_mono x h =
      elim (number_or_infinite far (above_zero far F)) [
        | inl P ↦ elim (number_or_infinite x (above_of_le far x P h)) [
          | inl Q ↦ mul_mono binary64 far x far x P Q P Q h h
          | inr e ↦ rw (e, infinite_square) (up_to_infinity (far ⊗ far) (plain_of far P))
        ]
        | inr e ↦ rw (e, le_of_infinity x (rw e at h), infinite_square) (up_to_infinity (inf false) infinite)
      ]

  squares : (x : Float) → (lt far x ≡ true) ⊎ (lt x (neg far) ≡ true) → T (le (far ⊗ far) (x ⊗ x))
  squares x (inl h) = square_mono x (le_of_lt far x h)
  squares x (inr h) = subst (λ (z : Float). T (le (far ⊗ far) z)) (square_turned x) (square_mono (neg x) (le_of_lt far (neg x) (sym (less_turned x far) ∙ h)))

-- ---- a sum of squares is not below either

sum_turned : {x y : Float} → Plain x → Plain y → x ⊕ y ≡ y ⊕ x
unfolding add sum
sum_turned infinite infinite = refl
sum_turned infinite (number n d) = refl
sum_turned (number m e) infinite = refl
sum_turned (number m e) (number n d) = rw (add_comm (m * up e * down d) (n * up d * down e), mul_comm (down e) (down d)) refl

squares_turned : (x y : Float) → x ⊗ x ⊕ y ⊗ y ≡ y ⊗ y ⊕ x ⊗ x
squares_turned x y =
    elim (square_plain x) [
      | inl e ↦ elim (square_plain y) [ inl d ↦ rw (e, d) refl | inr Q ↦ rw (e, to_nan (y ⊗ y)) (from_nan (y ⊗ y)) ]
      | inr P ↦ elim (square_plain y) [ inl d ↦ rw (d, to_nan (x ⊗ x)) (sym (from_nan (x ⊗ x))) | inr Q ↦ sum_turned P Q ]
    ]

not_below : {x y : Float} → T (fits binary64 x) → Plain x → Plain y → T (le x (x ⊕ y))
unfolding add le
not_below F infinite infinite = tt
not_below F infinite (number n d) = tt
not_below F (number m e) infinite = tt
not_below F (number m e) (number n d) = rises false m e false n d F refl

module _ (tol far : Float) (G : T (fits binary64 tol)) (L : lt f0 tol ≡ true) (F : lt f0 far ≡ true) (S : lt (tol ⊗ tol) (far ⊗ far) ≡ true) where
  by_sum : (x y : Float) → (x ⊗ x ⊕ y ⊗ y ≡ nan) ⊎ (lt (tol ⊗ tol) (x ⊗ x ⊕ y ⊗ y) ≡ true) → lt (sqrt_of binary64 (x ⊗ x ⊕ y ⊗ y)) tol ≡ false
  by_sum x y (inl e) = rw e (unfold lt sqrt_of in refl)
  by_sum x y (inr h) = no_root tol x y G L h

  by_squares : (x y : Float) → (lt far x ≡ true) ⊎ (lt x (neg far) ≡ true) → (x ⊗ x ⊕ y ⊗ y ≡ nan) ⊎ (lt (tol ⊗ tol) (x ⊗ x ⊕ y ⊗ y) ≡ true)
  by_squares x y h =
      elim (square_plain x) [
        | inl e ↦ inl (rw e (unfold add in refl))
        | inr P ↦ elim (square_plain y) [
          | inl e ↦ inl (rw e (to_nan (x ⊗ x)))
          | inr Q ↦ inr (lt_le (tol ⊗ tol) (x ⊗ x) (x ⊗ x ⊕ y ⊗ y) (lt_le (tol ⊗ tol) (far ⊗ far) (x ⊗ x) S (squares far F x h)) (not_below (mul-fits binary64 x x) P Q))
        ]
      ]

  by_first : (x y : Float) → (x ≡ nan) ⊎ ((lt far x ≡ true) ⊎ (lt x (neg far) ≡ true)) → lt (sqrt_of binary64 (x ⊗ x ⊕ y ⊗ y)) tol ≡ false
  by_first x y (inl e) = by_sum x y (inl (rw e (unfold mul add in refl)))
  by_first x y (inr h) = by_sum x y (by_squares x y h)

  by_second : (x y : Float) → (y ≡ nan) ⊎ ((lt far y ≡ true) ⊎ (lt y (neg far) ≡ true)) → lt (sqrt_of binary64 (x ⊗ x ⊕ y ⊗ y)) tol ≡ false
  by_second x y h = subst (λ (z : Float). lt (sqrt_of binary64 z) tol ≡ false) (squares_turned y x) (by_first y x h)

-- ---- the parameter of a foot is from 0 to 1, or a NaN

pub clamped : (x : Float) → (lt (clamp_of x f0 f1) f0 ≡ false) × (lt f1 (clamp_of x f0 f1) ≡ false)
unfolding clamp_of
clamped x = by (lt x f0) (lt f1 x) refl refl
  where
    by : (a b : Bool) → lt x f0 ≡ a → lt f1 x ≡ b → (lt (cond a f0 (cond b f1 x)) f0 ≡ false) × (lt f1 (cond a f0 (cond b f1 x)) ≡ false)
    by true b h k = (unfold lt of_bits in refl, unfold lt of_bits in refl)
    by false true h k = (unfold lt of_bits in refl, unfold lt of_bits in refl)
    by false false h k = (h, k)

share : (p a b : Point) → (lt (project_of p a b) f0 ≡ false) × (lt f1 (project_of p a b) ≡ false)
unfolding project_of clamped_foot
share p a b = by (lt (dot_of (minus_of b a) (minus_of b a)) f1e_20)
  where
    by : (z : Bool) →
        let t = cond z f0 (clamped_foot p a (minus_of b a) (dot_of (minus_of b a) (minus_of b a))) in
        (lt t f0 ≡ false) × (lt f1 t ≡ false)
    by true = (unfold lt of_bits in refl, unfold lt of_bits in refl)
    by false = clamped _

-- ---- the theorem

-- what a margin is that something is above, or below as a negative
record Margin (tol : Float) : Type 0 where
  some : lt f0 tol ≡ true
  above : lt f0 (margin_of tol) ≡ true
  square : lt (tol ⊗ tol) (margin_of tol ⊗ margin_of tol) ≡ true

module _ (tol : Float) where
  abbrev twice : Float
  twice = tol ⊕ tol

  is_twice : wide tol twice ≡ true → Margin tol
  unfolding margin_of wide
  is_twice e =
      let A = both (lt f0 tol) (lt (tol ⊗ tol) (twice ⊗ twice) && lt f0 twice) e in
      let B = both (lt (tol ⊗ tol) (twice ⊗ twice)) (lt f0 twice) A.1 in
      record { some = A.0; above = rw e B.1; square = rw e B.0 }

  margin : (x : Float) → (lt (margin_of tol) x ≡ true) ⊎ (lt x (neg (margin_of tol)) ≡ true) → Margin tol
  unfolding margin_of
  margin x h = by (wide tol twice) refl h
    where
      by : (b : Bool) → wide tol twice ≡ b → (lt (cond b twice nan) x ≡ true) ⊎ (lt x (neg (cond b twice nan)) ≡ true) → Margin tol
      by true e h = is_twice e
      by false e (inl h) = absurd (true≢false (sym h ∙ unfold lt in refl))
      by false e (inr h) = absurd (true≢false (sym h ∙ unfold neg in lt_nan x))

module _ (q b : Frame) (tol : Float) (p a c : Point) (G : T (fits binary64 tol)) (E : Spans q a c) (P : Inside b p) where
  abbrev t : Float
  t = project_of p a c

  abbrev far : Float
  far = margin_of tol

  along_x : beyond q.left q.right b.left b.right far ≡ true
      → Far a.x (c.x ⊖ a.x) t p.x far E.held.0 (sub-fits binary64 c.x a.x) (share p a c).0 (share p a c).1
  unfolding beyond plus_of minus_of
  along_x h =
      elim (one_of (lt far (q.left ⊖ b.right)) (lt (q.right ⊖ b.left) (neg far)) h) [
        | inl l ↦ by_low a.x (c.x ⊖ a.x) t p.x far E.held.0 (sub-fits binary64 c.x a.x) (share p a c).0 (share p a c).1
            q.left b.right E.first.not_left E.second.not_left P.not_right l
        | inr l ↦ by_high a.x (c.x ⊖ a.x) t p.x far E.held.0 (sub-fits binary64 c.x a.x) (share p a c).0 (share p a c).1
            q.right b.left E.first.not_right E.second.not_right P.not_left l
      ]

  along_y : beyond q.low q.high b.low b.high far ≡ true
      → Far a.y (c.y ⊖ a.y) t p.y far E.held.1 (sub-fits binary64 c.y a.y) (share p a c).0 (share p a c).1
  unfolding beyond plus_of minus_of
  along_y h =
      elim (one_of (lt far (q.low ⊖ b.high)) (lt (q.high ⊖ b.low) (neg far)) h) [
        | inl l ↦ by_low a.y (c.y ⊖ a.y) t p.y far E.held.1 (sub-fits binary64 c.y a.y) (share p a c).0 (share p a c).1
            q.low b.high E.first.not_below E.second.not_below P.not_above l
        | inr l ↦ by_high a.y (c.y ⊖ a.y) t p.y far E.held.1 (sub-fits binary64 c.y a.y) (share p a c).0 (share p a c).1
            q.high b.low E.first.not_above E.second.not_above P.not_below l
      ]

  from_beyond : (low high bottom top : Float) → beyond low high bottom top far ≡ true → Margin tol
  unfolding beyond
  from_beyond low high bottom top h =
      elim (one_of (lt far (low ⊖ top)) (lt (high ⊖ bottom) (neg far)) h) [ inl l ↦ margin tol (low ⊖ top) (inl l) | inr l ↦ margin tol (high ⊖ bottom) (inr l) ]

  pub clear : apart q b tol ≡ true → near_segment_of p a c tol ≡ false
  unfolding apart near_segment_of to_segment_of distance_of length_of dot_of minus_of along_of
  clear h =
      elim (one_of (beyond q.left q.right b.left b.right far) (beyond q.low q.high b.low b.high far) h) [
        | inl l ↦ let m = from_beyond q.left q.right b.left b.right l in by_first tol far G m.some m.above m.square _ _ (along_x l)
        | inr l ↦ let m = from_beyond q.low q.high b.low b.high l in by_second tol far G m.some m.above m.square _ _ (along_y l)
      ]

-- ---- the same of one edge beside a point

-- both ends past a point, so the foot as well
module _ (tol : Float) (p a b : Float) (A : T (fits binary64 a)) (t : Float) (lo : lt t f0 ≡ false) (hi : lt f1 t ≡ false) where
  abbrev W : T (fits binary64 (b ⊖ a))
  W = sub-fits binary64 b a

  abbrev end : Float
  end = a ⊕ (b ⊖ a)

  -- past the lower of both
  above_both : lt (margin_of tol) (a ⊖ p) ≡ true → lt (margin_of tol) (end ⊖ p) ≡ true → Far a (b ⊖ a) t p (margin_of tol) A W lo hi
  above_both g h = by (lt end a) refl
    where
      by : (z : Bool) → lt end a ≡ z → Far a (b ⊖ a) t p (margin_of tol) A W lo hi
      by false e = by_low a (b ⊖ a) t p (margin_of tol) A W lo hi a p (lt_irrefl a) e (lt_irrefl p) g
      by true e = by_low a (b ⊖ a) t p (margin_of tol) A W lo hi end p (not_less end a (le_of_lt end a e)) (lt_irrefl end) (lt_irrefl p) h

  below_both : lt (a ⊖ p) (neg (margin_of tol)) ≡ true → lt (end ⊖ p) (neg (margin_of tol)) ≡ true → Far a (b ⊖ a) t p (margin_of tol) A W lo hi
  below_both g h = by (lt a end) refl
    where
      by : (z : Bool) → lt a end ≡ z → Far a (b ⊖ a) t p (margin_of tol) A W lo hi
      by false e = by_high a (b ⊖ a) t p (margin_of tol) A W lo hi a p (lt_irrefl a) e (lt_irrefl p) g
      by true e = by_high a (b ⊖ a) t p (margin_of tol) A W lo hi end p (not_less a end (le_of_lt a end e)) (lt_irrefl end) (lt_irrefl p) h

  past_far : past p a b (margin_of tol) ≡ true → Margin tol × Far a (b ⊖ a) t p (margin_of tol) A W lo hi
  unfolding past
  past_far h = by (lt (margin_of tol) (a ⊖ p)) refl h
    where
      by : (z : Bool) → lt (margin_of tol) (a ⊖ p) ≡ z → cond z (lt (margin_of tol) (end ⊖ p)) (lt (a ⊖ p) (neg (margin_of tol)) && lt (end ⊖ p) (neg (margin_of tol))) ≡ true
          → Margin tol × Far a (b ⊖ a) t p (margin_of tol) A W lo hi
      by true g h = (margin tol (a ⊖ p) (inl g), above_both g h)
      by false g h =
          let s = both (lt (a ⊖ p) (neg (margin_of tol))) (lt (end ⊖ p) (neg (margin_of tol))) h in
          (margin tol (a ⊖ p) (inr s.0), below_both s.0 s.1)

module _ (tol : Float) (p a b : Point) (G : T (fits binary64 tol)) where
  pub beside_x : T (fits binary64 a.x) → past p.x a.x b.x (margin_of tol) ≡ true → near_segment_of p a b tol ≡ false
  unfolding near_segment_of to_segment_of distance_of length_of dot_of minus_of along_of
  beside_x A h =
      let u = share p a b in
      let f = past_far tol p.x a.x b.x A (project_of p a b) u.0 u.1 h in
      by_first tol (margin_of tol) G f.0.some f.0.above f.0.square _ _ f.1

  pub beside_y : T (fits binary64 a.y) → past p.y a.y b.y (margin_of tol) ≡ true → near_segment_of p a b tol ≡ false
  unfolding near_segment_of to_segment_of distance_of length_of dot_of minus_of along_of
  beside_y A h =
      let u = share p a b in
      let f = past_far tol p.y a.y b.y A (project_of p a b) u.0 u.1 h in
      by_second tol (margin_of tol) G f.0.some f.0.above f.0.square _ _ f.1
