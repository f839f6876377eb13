-- Edges whose bounds lie off from a point: rounding keeps the order of each operation, so along each axis the bounds tell how far the point lies
-- at least from its foot on an edge, whichever it is, and both together a least squared distance. What is a NaN is not nearer. Assumes nothing.
use mathlib.Core.Path.{◌≡◌, refl, sym, subst}
use mathlib.Core.Logic.{inl, inr}
use mathlib.Core.Bool.{Bool, true, false, cond}
use lib.Dec.{T}
use lib.Ieee.{Float, nan, binary64, fits, neg, of_bits, mul, lt, le, eq}
use lib.Ieee.Fits.{sub-fits}
use Rattle.laws.proofs.Order.{le_trans, not_less, no_nan, nan_above, lt_le, le_of_lt}
use Rattle.laws.proofs.Plain.{square_plain, from_nan, to_nan}
use Rattle.scalar.specs.Float.{f0, f1, ◌⊕◌, ◌⊖◌, ◌⊗◌, ◌⊘◌}
use Rattle.scalar.specs.Scalar.{clamp_of}
use Rattle.plane.specs.Vector.{minus_of, dot_of}
use Rattle.plane.specs.declared.Point.{Point}
use Rattle.frames.specs.Frame.{higher_number}
use Rattle.frames.proofs.Foot.{part_between, zero_first}
use Rattle.frames.proofs.Beyond.{InOrder, sums, no_gap}
use Rattle.frames.proofs.Clear.{square_turned, square_mono, clamped}
use Rattle.chains.proofs.Side.{not_under, same, apart, turned_round}
use Rattle.ring_distance.specs.Squared.{foot_along, squared_from}
use Rattle.ring_distance.specs.Far.{gap_of, NoneNearer}
use Rattle.ring_distance.specs.declared.far.Bounds.{Bounds}

-- ---- values that may be a NaN

through : (x y z : Float) → T (le x y) → InOrder y z → InOrder x z
through x y z h o =
    elim o [
      | inl e ↦ absurd (no_nan x (rw e at h))
      | inr r ↦ elim r [ inl e ↦ inr (inl e) | inr k ↦ inr (inr (le_trans x y z h k)) ]
    ]

onto : (x y z : Float) → InOrder x y → T (le y z) → InOrder x z
onto x y z o h =
    elim o [
      | inl e ↦ inl e
      | inr r ↦ elim r [ inl e ↦ absurd (nan_above z (rw e at h)) | inr k ↦ inr (inr (le_trans x y z k h)) ]
    ]

joined : (x y z w : Float) → InOrder x y → InOrder z w → InOrder (x ⊕ z) (y ⊕ w)
joined x y z w o p =
    elim o [
      | inl e ↦ inl (rw e (from_nan z))
      | inr r ↦ elim r [
        | inl e ↦ inr (inl (rw e (from_nan w)))
        | inr h ↦ elim p [
          | inl e ↦ inl (rw e (to_nan x))
          | inr q ↦ elim q [ inl e ↦ inr (inl (rw e (to_nan y))) | inr k ↦ sums x y z w h k ]
        ]
      ]
    ]

-- ---- squares

square_nan : nan ⊗ nan ≡ nan
unfolding mul
square_nan = refl

squared_more : (x y : Float) → lt f0 x ≡ true → InOrder x y → InOrder (x ⊗ x) (y ⊗ y)
squared_more x y F o =
    elim o [
      | inl e ↦ absurd (no_gap f0 x e F)
      | inr r ↦ elim r [ inl e ↦ inr (inl (rw e square_nan)) | inr h ↦ inr (inr (square_mono x F y h)) ]
    ]

-- no square is below that of zero
squared_none : (v : Float) → InOrder (f0 ⊗ f0) (v ⊗ v)
squared_none v = elim (square_plain v) [ inl e ↦ inr (inl e) | inr P ↦ inr (inr (rw none (zero_first P))) ]
  where
    none : f0 ⊗ f0 ≡ f0
    none = unfold mul of_bits in refl

-- what lies from u to o is not nearer to zero than the end that is
nearest_end : (u o v : Float) → InOrder u v → InOrder v o →
    let g = higher_number (higher_number f0 u) (neg o) in
    InOrder (g ⊗ g) (v ⊗ v)
unfolding higher_number
nearest_end u o v a b = by (lt f0 u) refl
  where
    below : lt f0 (neg o) ≡ true → InOrder (neg o ⊗ neg o) (v ⊗ v)
    below h = rw (← square_turned v) (squared_more (neg o) (neg v) h (turned_round v o b))

    by : (d : Bool) → lt f0 u ≡ d → let g = cond (lt (cond d u f0) (neg o)) (neg o) (cond d u f0) in InOrder (g ⊗ g) (v ⊗ v)
    by true h = at (lt u (neg o)) refl
      where
        at : (c : Bool) → lt u (neg o) ≡ c → let g = cond c (neg o) u in InOrder (g ⊗ g) (v ⊗ v)
        at true k = below (lt_le f0 u (neg o) h (le_of_lt u (neg o) k))
        at false k = squared_more u v h a
    by false h = at (lt f0 (neg o)) refl
      where
        at : (c : Bool) → lt f0 (neg o) ≡ c → let g = cond c (neg o) f0 in InOrder (g ⊗ g) (v ⊗ v)
        at true k = below k
        at false k = squared_none v

-- ---- along one axis

module _ (p a d t low high least most : Float) (held : T (fits binary64 d)) (from : lt t f0 ≡ false) (upto : lt f1 t ≡ false)
    (left : lt a low ≡ false) (right : lt high a ≡ false) (less : lt d least ≡ false) (more : lt most d ≡ false)
    (none-less : lt f0 least ≡ false) (None-more : lt most f0 ≡ false) where
  not_over : InOrder (t ⊗ d) most
  not_over =
      elim (part_between d t held from upto) [
        | inl e ↦ inl e
        | inr b ↦ elim b.1 [ inl h ↦ through (t ⊗ d) f0 most h (not_under f0 most None-more) | inr h ↦ through (t ⊗ d) d most h (not_under d most more) ]
      ]

  not_below : InOrder least (t ⊗ d)
  not_below =
      elim (part_between d t held from upto) [
        | inl e ↦ inr (inl e)
        | inr b ↦ elim b.0 [ inl h ↦ onto least f0 (t ⊗ d) (not_under least f0 none-less) h | inr h ↦ onto least d (t ⊗ d) (not_under least d less) h ]
      ]

  off : let v = p ⊖ a ⊖ t ⊗ d in InOrder (gap_of p low high least most) (v ⊗ v)
  unfolding gap_of
  off =
      nearest_end (p ⊖ high ⊖ most) (p ⊖ low ⊖ least) (p ⊖ a ⊖ t ⊗ d)
      (apart (p ⊖ high) (p ⊖ a) most (t ⊗ d) (apart p p high a (same p) (not_under a high right)) not_over)
      (apart (p ⊖ a) (p ⊖ low) (t ⊗ d) least (apart p p a low (same p) (not_under low a left)) not_below)

-- ---- both

foot_from : (w d : Point) → (lt (foot_along w d) f0 ≡ false) × (lt f1 (foot_along w d) ≡ false)
unfolding foot_along
foot_from w d = by (eq (dot_of d d) f0)
  where
    by : (b : Bool) → let t = cond b f0 (clamp_of (dot_of w d ⊘ dot_of d d) f0 f1) in (lt t f0 ≡ false) × (lt f1 t ≡ false)
    by true = (unfold lt of_bits in refl, unfold lt of_bits in refl)
    by false = clamped (dot_of w d ⊘ dot_of d d)

not_nearer : (x y : Float) (least : Float) → T (le least x) → InOrder x y → lt y least ≡ false
not_nearer x y least h o =
    elim (through least x y h o) [
      | inl e ↦ absurd (nan_above x (rw e at h))
      | inr r ↦ elim r [ inl e ↦ rw e (unfold lt in refl) | inr k ↦ not_less least y k ]
    ]

pub none_nearer : (w : Bounds) (p : Point) (least : Float) {x y : Float}
    → x ≡ gap_of p.x w.starts.left w.starts.right w.ways.left w.ways.right
    → y ≡ gap_of p.y w.starts.low w.starts.high w.ways.low w.ways.high
    → le least (x ⊕ y) ≡ true → NoneNearer w p least
unfolding squared_from dot_of minus_of
none_nearer w p least ex ey h a b B =
    let d = minus_of b a in
    let t = foot_along (minus_of p a) d in
    let f = foot_from (minus_of p a) d in
    let s = B.start in
    let i = B.way in
    let z = B.nothing in
    not_nearer _ _ least (subst T (sym h) tt)
    (joined _ _ _ _
    (rw ex (off p.x a.x d.x t w.starts.left w.starts.right w.ways.left w.ways.right (sub-fits binary64 _ _) f.0 f.1
    s.not_left s.not_right i.not_left i.not_right z.not_left z.not_right))
    (rw ey (off p.y a.y d.y t w.starts.low w.starts.high w.ways.low w.ways.high (sub-fits binary64 _ _) f.0 f.1
    s.not_below s.not_above i.not_below i.not_above z.not_below z.not_above)))
