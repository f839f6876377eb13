-- Bounds widened by a point hold it, and hold all that they held. Assumes nothing.
use Prim.Native.Nat.{ℕ, ◌+◌, ◌<◌}
use native.Mathlib.Omega.{arith}
use native.Mathlib.Nat.{eq-or-lt_of_le, mod-eq_of_lt}
use mathlib.Core.Path.{◌≡◌, refl, sym, ap, ◌∙◌, subst}
use mathlib.Core.Logic.{inl, inr}
use mathlib.Core.Bool.{Bool, true, false, cond, true≢false}
use mathlib.Core.List.{List}
use lib.Dec.{T}
use lib.Ieee.{Float, binary64, fits, lt}
use Rattle.laws.proofs.Order.{total, le_trans, lt_nan, not_less, lt_irrefl, le_of_lt}
use Rattle.plane.specs.Vector.{minus_of, plus_of}
use Rattle.plane.specs.declared.Point.{Point}
use Rattle.ring.specs.Ring.{count, point_at, next_of}
use Rattle.frames.specs.Frame.{Inside, WithinFrame, HeldPoint, Spans, Around, lower_number, higher_number}
use Rattle.frames.specs.declared.Frame.{Frame}

-- ---- one bound

lower_at : (b x : Float) → lt x (lower_number b x) ≡ false
unfolding lower_number
lower_at b x = by (lt x b) refl
  where
    by : (t : Bool) → lt x b ≡ t → lt x (cond t x b) ≡ false
    by true h = lt_irrefl x
    by false h = h

lower_keeps : (b x z : Float) → lt z b ≡ false → lt z (lower_number b x) ≡ false
unfolding lower_number
lower_keeps b x z k = by (lt x b) refl
  where
    by : (t : Bool) → lt x b ≡ t → lt z (cond t x b) ≡ false
    by false h = k
    by true h =
        elim (total z b k) [
          | inl e ↦ rw e (unfold lt in refl)
          | inr r ↦ elim r [ inl e ↦ absurd (true≢false (sym h ∙ rw e (lt_nan x))) | inr g ↦ not_less x z (le_trans x b z (le_of_lt x b h) g) ]
        ]

pub higher_at : (b x : Float) → lt (higher_number b x) x ≡ false
unfolding higher_number
higher_at b x = by (lt b x) refl
  where
    by : (t : Bool) → lt b x ≡ t → lt (cond t x b) x ≡ false
    by true h = lt_irrefl x
    by false h = h

pub higher_keeps : (b x z : Float) → lt b z ≡ false → lt (higher_number b x) z ≡ false
unfolding higher_number
higher_keeps b x z k = by (lt b x) refl
  where
    by : (t : Bool) → lt b x ≡ t → lt (cond t x b) z ≡ false
    by false h = k
    by true h =
        elim (total b z k) [
          | inl e ↦ absurd (true≢false (sym h ∙ rw e (unfold lt in refl)))
          | inr r ↦ elim r [ inl e ↦ rw e (lt_nan x) | inr g ↦ not_less z x (le_trans z b x g (le_of_lt b x h)) ]
        ]

-- ---- all four

pub with_point : (q : Frame) (p : Point) {l r b t : Float}
    → (l ≡ lower_number q.left p.x) × T (fits binary64 p.x) → r ≡ higher_number q.right p.x
    → (b ≡ lower_number q.low p.y) × T (fits binary64 p.y) → t ≡ higher_number q.high p.y →
    let w : Frame = record { left = l; right = r; low = b; high = t } in Inside w p × (WithinFrame q w × HeldPoint p)
with_point q p e f g h = (
  record { not_left = rw e.0 (lower_at q.left p.x); not_right = rw f (higher_at q.right p.x); not_below = rw g.0 (lower_at q.low p.y); not_above = rw h (higher_at q.high p.y) },
  (
    λ z i. record {
      not_left = rw e.0 (lower_keeps q.left p.x z.x i.not_left);
      not_right = rw f (higher_keeps q.right p.x z.x i.not_right);
      not_below = rw g.0 (lower_keeps q.low p.y z.y i.not_below);
      not_above = rw h (higher_keeps q.high p.y z.y i.not_above);
    },
    (e.1, g.1),
  ),
)

-- ---- an edge, and the edges of a ring

pub with_edge : (q r w : Frame) (a b : Point) {d e : Point} → Inside r a × (WithinFrame q r × HeldPoint a) → d ≡ minus_of b a → e ≡ plus_of a d → Inside w e × (WithinFrame r w × HeldPoint e)
    → Spans w a b × WithinFrame q w
with_edge q r w a b h j k i =
    (record { first = i.1.0 a h.0; second = subst (λ (z : Point). Inside w (plus_of a z)) j (subst (Inside w) k i.0); held = h.1.1 }, λ p z. i.1.0 p (h.1.0 p z))

kept : (q w : Frame) (a b : Point) → WithinFrame q w → Spans q a b → Spans w a b
kept q w a b h s = record { first = h _ s.first; second = h _ s.second; held = s.held }

pub one_more : (r : List Float) (i : ℕ) (q w : Frame) {a b : Point} → Around q r i → a ≡ point_at r i → b ≡ point_at r (next_of i (count r)) → Spans w a b × WithinFrame q w → Around w r (i + 1)
one_more r i q w h e f s k l =
    elim (eq-or-lt_of_le {n = k} {m = i} (omega arith)) [
      | inl z ↦ rw (z, ← e, ← f) s.0
      | inr u ↦ kept q w _ _ s.1 (h k u)
    ]

-- a ring's edges, as many as it has vertices, and its first vertex
pub none_yet : (q : Frame) (r : List Float) → Around q r 0
none_yet q r i h = absurd (omega (arith, h))

-- the vertex at the end of an edge is the next one's start
pub next_start : (r : List Float) (i n : ℕ) {b : Point} → b ≡ point_at r (next_of i n) → i + 1 < n → b ≡ point_at r (i + 1)
next_start r i n e h = e ∙ ap (point_at r) (mod-eq_of_lt h)
