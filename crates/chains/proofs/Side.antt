-- What lies between two corners of a box lies between them to the side of every ray of a direction, as it is rounded too. So a ray that passes beside the corners by more than twice the
-- denominator has its parameter along the segment out of range. Assumes nothing.
use mathlib.Core.Path.{◌≡◌, refl, sym, ◌∙◌}
use mathlib.Core.Logic.{◌⊎◌, inl, inr}
use mathlib.Core.Bool.{true, false, true≢false}
use lib.Dec.{T}
use lib.Ieee.{Float, nan, inf, fin, binary64, fits, neg, div, lt, is_nan}
use lib.Ieee.Fits.{sub-fits}
use Rattle.laws.proofs.Both.{one_of}
use Rattle.laws.proofs.Order.{total, le_lt, lt_le, lt_irrefl}
use Rattle.laws.proofs.Plain.{Plain, infinite, number, sum_plain}
use Rattle.scalar.specs.Float.{f0, ◌⊖◌, ◌⊗◌, ◌⊘◌}
use Rattle.scalar.specs.Scalar.{abs_of}
use Rattle.plane.specs.Vector.{minus_of, cross_of}
use Rattle.plane.specs.declared.Point.{Point}
use Rattle.frames.proofs.Beyond.{InOrder, turned, differences, nan_less, less_nan, no_gap}
use Rattle.chains.specs.Chain.{aside_of, across_of, twice, passes, Bounds}
use Rattle.chains.specs.declared.Chain.{Chain}
use Rattle.chains.proofs.Products.{rising, falling}
use Rattle.chains.proofs.Range.{Big, none, above_twice, below_twice, out_of_range}

-- ---- values that may be a NaN

-- what is not less
pub not_under : (x y : Float) → lt y x ≡ false → InOrder x y
not_under x y h = elim (total y x h) [ inl e ↦ inr (inl e) | inr r ↦ elim r [ inl e ↦ inl e | inr l ↦ inr (inr l) ] ]

pub same : (x : Float) → InOrder x x
same x = not_under x x (lt_irrefl x)

pub apart : (x y z w : Float) → InOrder x y → InOrder w z → InOrder (x ⊖ z) (y ⊖ w)
apart x y z w o p =
    elim o [
      | inl e ↦ inl (rw e (nan_less z))
      | inr r ↦ elim r [
        | inl e ↦ inr (inl (rw e (nan_less w)))
        | inr h ↦ elim p [
          | inl e ↦ inr (inl (rw e (less_nan y)))
          | inr q ↦ elim q [ inl e ↦ inl (rw e (less_nan x)) | inr k ↦ differences x y z w h k ]
        ]
      ]
    ]

neg_nan : neg nan ≡ nan
unfolding neg
neg_nan = refl

pub turned_round : (x y : Float) → InOrder x y → InOrder (neg y) (neg x)
turned_round x y o =
    elim o [ inl e ↦ inr (inl (rw e neg_nan)) | inr r ↦ elim r [ inl e ↦ inl (rw e neg_nan) | inr h ↦ inr (inr (turned x y h)) ] ]

-- ---- to the side of a ray

-- a point is nearer to the one side along both axes: by the signs of the direction
pub record Before (d p q : Point) : Type 0 where
  pub along_x : ((lt d.y f0 ≡ false) × InOrder p.x q.x) ⊎ ((lt f0 d.y ≡ false) × InOrder q.x p.x)
  pub along_y : ((lt d.x f0 ≡ false) × InOrder q.y p.y) ⊎ ((lt f0 d.x ≡ false) × InOrder p.y q.y)

scaled : (x y v z : Float) → ((lt z f0 ≡ false) × InOrder x y) ⊎ ((lt f0 z ≡ false) × InOrder y x) → InOrder ((x ⊖ v) ⊗ z) ((y ⊖ v) ⊗ z)
scaled x y v z (inl h) = rising (x ⊖ v) (y ⊖ v) z h.0 (apart x y v v h.1 (same v))
scaled x y v z (inr h) = falling (y ⊖ v) (x ⊖ v) z h.0 (apart y x v v h.1 (same v))

pub asides : (d p q v : Point) → Before d p q → InOrder (aside_of v d p) (aside_of v d q)
unfolding cross_of minus_of
asides d p q v b = apart _ _ _ _ (scaled p.x q.x v.x d.y b.along_x) (scaled q.y p.y v.y d.x b.along_y)

-- ---- the parameter

real : {x : Float} → Plain x → is_nan x ≡ false
unfolding is_nan
real infinite = refl
real (number m e) = refl

no_number : (x : Float) → x ≡ nan → is_nan x ≡ false → ⊥
no_number x e h = true≢false (unfold is_nan in rw e at h)

twice_nan : (y : Float) → twice y ≡ nan → y ≡ nan
unfolding abs_of
twice_nan nan h = refl
twice_nan (inf s) h = absurd (no_number (twice (inf s)) h (real (sum_plain infinite infinite)))
twice_nan (fin s m e) h = absurd (no_number (twice (fin s m e)) h (real (sum_plain (number m e) (number m e))))

over_nan : (x : Float) → x ⊘ nan ≡ nan
unfolding div
over_nan nan = refl
over_nan (inf s) = refl
over_nan (fin s m e) = refl

nan_over : (y : Float) → nan ⊘ y ≡ nan
unfolding div
nan_over y = refl

neg_real : (x : Float) → neg x ≡ nan → x ≡ nan
unfolding neg
neg_real nan h = refl
neg_real (inf s) h = cc
neg_real (fin s m e) h = cc

no_numerator : (x y : Float) → x ≡ nan → Big (x ⊘ y)
no_numerator x y e = rw (e, nan_over y) none

no_denominator : (x y : Float) → twice y ≡ nan → Big (x ⊘ y)
no_denominator x y e = rw (twice_nan y e, over_nan x) none

nothing_above : (x y : Float) → x ≡ nan → lt x y ≡ true → ⊥
nothing_above x y e h = true≢false (sym h ∙ rw e (unfold lt in refl))

-- farther than the bound, and so than twice the denominator, by which the bound is not exceeded
reaches : (far a b y : Float) → lt far (twice y) ≡ false → InOrder a b → lt far a ≡ true → (b ≡ nan) ⊎ ((twice y ≡ nan) ⊎ (lt (twice y) b ≡ true))
reaches far a b y w o h =
    elim o [
      | inl e ↦ absurd (no_gap far a e h)
      | inr r ↦ elim r [
        | inl e ↦ inl e
        | inr l ↦ elim (total far (twice y) w) [
          | inl e ↦ absurd (nothing_above far a e h)
          | inr q ↦ elim q [ inl e ↦ inr (inl e) | inr k ↦ inr (inr (le_lt (twice y) far b k (lt_le far a b h l))) ]
        ]
      ]
    ]

pub beside : (b : Chain) (d p q : Point) → Before d b.least p → Before d p b.most → lt b.far (twice (across_of d p q)) ≡ false → Bounds b d p q
unfolding passes
beside b d p q l m w v tol h t =
    out_of_range (x ⊘ y) tol h
    (elim (one_of (lt b.far (aside_of v d b.least)) (lt b.far (neg (aside_of v d b.most))) t) [
      | inl g ↦ elim (reaches b.far (aside_of v d b.least) x y w (asides d b.least p v l) g) [
        | inl e ↦ no_numerator x y e
        | inr r ↦ elim r [ inl e ↦ no_denominator x y e | inr k ↦ above_twice x y held k ]
      ]
      | inr g ↦ elim (reaches b.far (neg (aside_of v d b.most)) (neg x) y w (turned_round x (aside_of v d b.most) (asides d p b.most v m)) g) [
        | inl e ↦ no_numerator x y (neg_real x e)
        | inr r ↦ elim r [ inl e ↦ no_denominator x y e | inr k ↦ below_twice x y held k ]
      ]
    ])
  where
    x : Float
    x = aside_of v d p

    y : Float
    y = across_of d p q

    held : T (fits binary64 x)
    held = unfold cross_of in sub-fits binary64 _ _
