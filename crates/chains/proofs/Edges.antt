-- The bounds of a chain, by the frame around its edges' starts: which corner lies least to the side of a ray goes by the signs of the direction. And a loop that takes in one edge after the other: each that was taken starts in
-- the frame and is not wider than the bound. Assumes nothing.
use Prim.Native.Nat.{ℕ, ◌+◌, ◌≤◌, ◌<◌}
use native.Mathlib.Omega.{arith}
use native.Mathlib.Nat.{eq-or-lt_of_le}
use mathlib.Core.Path.{◌≡◌, refl}
use mathlib.Core.Logic.{◌⊎◌, inl, inr}
use mathlib.Core.Bool.{Bool, true, false, cond}
use mathlib.Core.List.{List}
use lib.Ieee.{Float, lt}
use Rattle.laws.proofs.Order.{lt_asym}
use Rattle.scalar.specs.Float.{f0}
use Rattle.plane.specs.Vector.{point}
use Rattle.plane.specs.declared.Point.{Point}
use Rattle.ring.specs.Ring.{count, point_at, next_of}
use Rattle.frames.specs.Frame.{Inside, WithinFrame, HeldPoint, higher_number}
use Rattle.frames.specs.declared.Frame.{Frame}
use Rattle.frames.proofs.Beyond.{InOrder}
use Rattle.frames.proofs.Widened.{higher_at, higher_keeps}
use Rattle.chains.specs.Chain.{across_of, twice, Bounds, BoundsEdges}
use Rattle.chains.specs.declared.Chain.{Chain}
use Rattle.chains.proofs.Side.{not_under, beside}

-- ---- the corners

module _ (z lo hi x : Float) (l : lt x lo ≡ false) (h : lt hi x ≡ false) where
  -- the end of an axis at which a product with z is least, and the other
  near_end : {c : Float} → c ≡ cond (lt z f0) hi lo → ((lt z f0 ≡ false) × InOrder c x) ⊎ ((lt f0 z ≡ false) × InOrder x c)
  near_end e = by (lt z f0) refl e
    where
      by : (b : Bool) → lt z f0 ≡ b → {c : Float} → c ≡ cond b hi lo → ((lt z f0 ≡ false) × InOrder c x) ⊎ ((lt f0 z ≡ false) × InOrder x c)
      by true s e = inr (lt_asym z f0 s, rw e (not_under x hi h))
      by false s e = inl (s, rw e (not_under lo x l))

  far_end : {c : Float} → c ≡ cond (lt z f0) lo hi → ((lt z f0 ≡ false) × InOrder x c) ⊎ ((lt f0 z ≡ false) × InOrder c x)
  far_end e = by (lt z f0) refl e
    where
      by : (b : Bool) → lt z f0 ≡ b → {c : Float} → c ≡ cond b lo hi → ((lt z f0 ≡ false) × InOrder x c) ⊎ ((lt f0 z ≡ false) × InOrder c x)
      by true s e = inr (lt_asym z f0 s, rw e (not_under lo x l))
      by false s e = inl (s, rw e (not_under x hi h))

pub framed : (w : Frame) (d : Point) (far : Float) {a b c e : Float}
    → a ≡ cond (lt d.y f0) w.right w.left → b ≡ cond (lt d.x f0) w.low w.high
    → c ≡ cond (lt d.y f0) w.left w.right → e ≡ cond (lt d.x f0) w.high w.low
    → (p q : Point) → Inside w p → lt far (twice (across_of d p q)) ≡ false → Bounds (record { least = point a b; most = point c e; far = far }) d p q
framed w d far {a} {b} {c} {e} ha hb hc he p q i k =
    beside (record { least = point a b; most = point c e; far = far }) d p q
    (record { along_x = near_end d.y w.left w.right p.x i.not_left i.not_right ha; along_y = far_end d.x w.low w.high p.y i.not_below i.not_above hb })
    (record { along_x = far_end d.y w.left w.right p.x i.not_left i.not_right hc; along_y = near_end d.x w.low w.high p.y i.not_below i.not_above he })
    k

-- ---- edge by edge

module _ (r : List Float) (d : Point) (from : ℕ) where
  abbrev wide : ℕ → Float
  wide k = twice (across_of d (point_at r k) (point_at r (next_of k (count r))))

  -- the edges from the first on and below e are taken
  abbrev pub Taken : Frame → Float → ℕ → Type 0
  Taken w far e = (k : ℕ) → from ≤ k → k < e → Inside w (point_at r k) × (lt far (wide k) ≡ false)

  pub none_taken : (w : Frame) (far : Float) → Taken w far from
  none_taken w far k l h = absurd (omega arith)

  pub one_taken : (w v : Frame) (far : Float) (e : ℕ) {p q : Point} {x g : Float} → Taken w far e → p ≡ point_at r e → q ≡ point_at r (next_of e (count r))
      → Inside v p × (WithinFrame w v × HeldPoint p) → x ≡ twice (across_of d p q) → g ≡ higher_number far x → Taken v g (e + 1)
  one_taken w v far e {p} {q} {x} {g} t ep eq i ex eg k l h =
      elim (eq-or-lt_of_le {n = k} {m = e} (omega arith)) [
        | inl z ↦ rw (z, ← ep, ← eq, ← ex, eg) (i.0, higher_at far x)
        | inr u ↦ (i.1.0 (point_at r k) (t k l u).0, rw eg (higher_keeps far x (wide k) (t k l u).1))
      ]

  pub all_taken : (w : Frame) (far : Float) (e to : ℕ) (b : Chain) → to ≤ e → Taken w far e
      → ((p q : Point) → Inside w p → lt far (twice (across_of d p q)) ≡ false → Bounds b d p q) → BoundsEdges b d r from to
  all_taken w far e to b m t i k l h = let z = t k l (omega arith) in i (point_at r k) (point_at r (next_of k (count r))) z.0 z.1
