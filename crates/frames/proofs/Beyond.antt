-- Along one axis the foot of a point on an edge lies within the edge's bounds. So where these lie beyond the point's by more than so far, the foot does too, or is a NaN. A difference
-- grows with what is lessened and shrinks with what is taken away, as it is rounded too. Assumes nothing.
use native.Mathlib.Omega.{arith}
use mathlib.Core.Path.{◌≡◌, refl, sym, ◌∙◌, subst}
use mathlib.Core.Logic.{◌⊎◌, inl, inr}
use mathlib.Core.Bool.{true, false, true≢false}
use lib.Dec.{T}
use lib.Ieee.{Float, nan, inf, fin, binary64, fits, neg, add, sub, lt, le}
use Rattle.laws.proofs.Parts.{parts_of_le, le_of_parts}
use Rattle.laws.proofs.Order.{total, le_trans, lt_le, le_lt, lt_nan, nan_above, no_nan}
use Rattle.laws.proofs.Rounding.{finite_mono}
use Rattle.scalar.specs.Float.{f0, f1, ◌⊕◌, ◌⊖◌, ◌⊗◌}
use Rattle.frames.proofs.Sums.{adds_more}
use Rattle.frames.proofs.Foot.{between}

-- ---- a sum grows with both

-- a result that may be a NaN is not above another that may be
abbrev pub InOrder : Float → Float → Type 0
InOrder x y = (x ≡ nan) ⊎ ((y ≡ nan) ⊎ T (le x y))

pub lowest : (y : Float) → InOrder (inf true) y
unfolding le
lowest nan = inr (inl refl)
lowest (inf true) = inr (inr tt)
lowest (inf false) = inr (inr tt)
lowest (fin s m e) = inr (inr tt)

pub highest : (x : Float) → InOrder x (inf false)
unfolding le
highest nan = inl refl
highest (inf true) = inr (inr tt)
highest (inf false) = inr (inr tt)
highest (fin s m e) = inr (inr tt)

from_lowest : (z y : Float) → InOrder (inf true ⊕ z) y
from_lowest nan y = inl (unfold add in refl)
from_lowest (inf true) y = unfold add in lowest y
from_lowest (inf false) y = inl (unfold add in refl)
from_lowest (fin t n d) y = unfold add in lowest y

to_highest : (x w : Float) → InOrder x (inf false ⊕ w)
to_highest x nan = inr (inl (unfold add in refl))
to_highest x (inf true) = inr (inl (unfold add in refl))
to_highest x (inf false) = unfold add in highest x
to_highest x (fin t n d) = unfold add in highest x

pub sums : (x y z w : Float) → T (le x y) → T (le z w) → InOrder (x ⊕ z) (y ⊕ w)
unfolding le
sums nan y z w h k = absurd h
sums (inf true) y z w h k = from_lowest z (y ⊕ w)
sums (inf false) nan z w h k = absurd h
sums (inf false) (inf true) z w h k = absurd h
sums (inf false) (inf false) z w h k = to_highest (inf false ⊕ z) w
sums (inf false) (fin t n d) z w h k = absurd h
sums (fin s m e) nan z w h k = absurd h
sums (fin s m e) (inf true) z w h k = absurd h
sums (fin s m e) (inf false) z w h k = to_highest (fin s m e ⊕ z) w
sums (fin s m e) (fin t n d) nan w h k = absurd k
sums (fin s m e) (fin t n d) (inf true) w h k = unfold add in lowest (fin t n d ⊕ w)
sums (fin s m e) (fin t n d) (inf false) nan h k = absurd k
sums (fin s m e) (fin t n d) (inf false) (inf true) h k = absurd k
sums (fin s m e) (fin t n d) (inf false) (inf false) h k = unfold add in highest (inf false)
sums (fin s m e) (fin t n d) (inf false) (fin r l b) h k = absurd k
sums (fin s m e) (fin t n d) (fin q i a) nan h k = absurd k
sums (fin s m e) (fin t n d) (fin q i a) (inf true) h k = absurd k
sums (fin s m e) (fin t n d) (fin q i a) (inf false) h k = unfold add in highest (fin s m e ⊕ fin q i a)
sums (fin s m e) (fin t n d) (fin q i a) (fin r l b) h k =
    inr (inr (le_trans (fin s m e ⊕ fin q i a) (fin t n d ⊕ fin q i a) (fin t n d ⊕ fin r l b)
    (finite_mono binary64 s m e t n d q i a h) (adds_more t n d q i a r l b k)))

-- the order turned round
pub turned : (x y : Float) → T (le x y) → T (le (neg y) (neg x))
unfolding le neg
turned nan y h = absurd h
turned (inf s) nan h = absurd h
turned (fin s m e) nan h = absurd h
turned (inf true) (inf true) h = tt
turned (inf true) (inf false) h = tt
turned (inf false) (inf true) h = absurd h
turned (inf false) (inf false) h = tt
turned (inf true) (fin t n d) h = tt
turned (inf false) (fin t n d) h = absurd h
turned (fin s m e) (inf true) h = absurd h
turned (fin s m e) (inf false) h = tt
turned (fin false m e) (fin false n d) h = le_of_parts true n d true m e (let l = parts_of_le false m e false n d h in omega arith)
turned (fin false m e) (fin true n d) h = le_of_parts false n d true m e (let l = parts_of_le false m e true n d h in omega arith)
turned (fin true m e) (fin false n d) h = le_of_parts true n d false m e (omega arith)
turned (fin true m e) (fin true n d) h = le_of_parts false n d false m e (let l = parts_of_le true m e true n d h in omega arith)

pub differences : (x y z w : Float) → T (le x y) → T (le w z) → InOrder (x ⊖ z) (y ⊖ w)
unfolding sub
differences x y z w h k = sums x y (neg z) (neg w) h (turned w z k)

pub nan_less : (x : Float) → nan ⊖ x ≡ nan
unfolding sub add
nan_less x = refl

pub less_nan : (x : Float) → x ⊖ nan ≡ nan
unfolding sub add neg
less_nan nan = refl
less_nan (inf s) = refl
less_nan (fin s m e) = refl

-- a NaN is neither above nor below
pub no_gap : (x y : Float) → y ≡ nan → lt x y ≡ true → ⊥
no_gap x y e h = true≢false (sym h ∙ rw e (lt_nan x))

no_reach : (x y : Float) → x ≡ nan → lt x y ≡ true → ⊥
no_reach x y e h = true≢false (sym h ∙ rw e (unfold lt in refl))

-- ---- the foot is beyond the point along one axis

module _ (a w t p far : Float) (A : T (fits binary64 a)) (W : T (fits binary64 w)) (lo : lt t f0 ≡ false) (hi : lt f1 t ≡ false) where
  abbrev pub foot : Float
  foot = a ⊕ t ⊗ w

  -- NaN or above the bound, where both ends are not below it
  not_under : (l : Float) → lt a l ≡ false → lt (a ⊕ w) l ≡ false → (foot ≡ nan) ⊎ ((l ≡ nan) ⊎ T (le l foot))
  not_under l h k = elim (between a w t A W lo hi) [ inl e ↦ inl e | inr b ↦ elim b.0 [ inl g ↦ by a h g | inr g ↦ by (a ⊕ w) k g ] ]
    where
      by : (x : Float) → lt x l ≡ false → T (le x foot) → (foot ≡ nan) ⊎ ((l ≡ nan) ⊎ T (le l foot))
      by x h g =
          elim (total x l h) [
            | inl e ↦ absurd (nan_above foot (subst (λ (y : Float). T (le y foot)) e g))
            | inr r ↦ elim r [ inl e ↦ inr (inl e) | inr f ↦ inr (inr (le_trans l x foot f g)) ]
          ]

  -- NaN or below it, where both are not above it
  not_over : (u : Float) → lt u a ≡ false → lt u (a ⊕ w) ≡ false → (foot ≡ nan) ⊎ ((u ≡ nan) ⊎ T (le foot u))
  not_over u h k = elim (between a w t A W lo hi) [ inl e ↦ inl e | inr b ↦ elim b.1 [ inl g ↦ by a h g | inr g ↦ by (a ⊕ w) k g ] ]
    where
      by : (x : Float) → lt u x ≡ false → T (le foot x) → (foot ≡ nan) ⊎ ((u ≡ nan) ⊎ T (le foot u))
      by x h g =
          elim (total u x h) [
            | inl e ↦ inr (inl e)
            | inr r ↦ elim r [ inl e ↦ absurd (no_nan foot (subst (λ (y : Float). T (le foot y)) e g)) | inr f ↦ inr (inr (le_trans foot x u g f)) ]
          ]

  -- the foot is a NaN or farther than so far from the point, one way or the other
  abbrev pub Far : Type 0
  Far = (foot ⊖ p ≡ nan) ⊎ ((lt far (foot ⊖ p) ≡ true) ⊎ (lt (foot ⊖ p) (neg far) ≡ true))

  no_foot : foot ≡ nan → Far
  no_foot e = inl (rw e (nan_less p))

  no_point : p ≡ nan → Far
  no_point e = inl (rw e (less_nan foot))

  pub by_low : (low top : Float) → lt a low ≡ false → lt (a ⊕ w) low ≡ false → lt top p ≡ false → lt far (low ⊖ top) ≡ true → Far
  by_low low top h k i l =
      elim (not_under low h k) [
        | inl e ↦ no_foot e
        | inr r ↦ elim r [
          | inl e ↦ absurd (no_gap far (low ⊖ top) (rw e (nan_less top)) l)
          | inr g ↦ elim (total top p i) [
            | inl e ↦ absurd (no_gap far (low ⊖ top) (rw e (less_nan low)) l)
            | inr q ↦ elim q [
              | inl e ↦ no_point e
              | inr f ↦ elim (differences low foot top p g f) [
                | inl e ↦ absurd (no_gap far (low ⊖ top) e l)
                | inr s ↦ elim s [ inl e ↦ inl e | inr z ↦ inr (inl (lt_le far (low ⊖ top) (foot ⊖ p) l z)) ]
              ]
            ]
          ]
        ]
      ]

  pub by_high : (high bottom : Float) → lt high a ≡ false → lt high (a ⊕ w) ≡ false → lt p bottom ≡ false → lt (high ⊖ bottom) (neg far) ≡ true → Far
  by_high high bottom h k i l =
      elim (not_over high h k) [
        | inl e ↦ no_foot e
        | inr r ↦ elim r [
          | inl e ↦ absurd (no_reach (high ⊖ bottom) (neg far) (rw e (nan_less bottom)) l)
          | inr g ↦ elim (total p bottom i) [
            | inl e ↦ no_point e
            | inr q ↦ elim q [
              | inl e ↦ absurd (no_reach (high ⊖ bottom) (neg far) (rw e (less_nan high)) l)
              | inr f ↦ elim (differences foot high p bottom g f) [
                | inl e ↦ inl e
                | inr s ↦ elim s [ inl e ↦ absurd (no_reach (high ⊖ bottom) (neg far) e l) | inr z ↦ inr (inr (le_lt (foot ⊖ p) (high ⊖ bottom) (neg far) z l)) ]
              ]
            ]
          ]
        ]
      ]
