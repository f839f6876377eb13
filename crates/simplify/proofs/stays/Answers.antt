-- `simplify::stays` meets its contract: the turn, and then the distance. Assumes nothing.
use Prim.Native.Nat.{ℕ}
use mathlib.Core.Path.{◌≡◌}
use mathlib.Core.Bool.{true, false}
use mathlib.Core.List.{List}
use lib.Ieee.{Float, lt}
use Rattle.scalar.specs.Float.{f0}
use Rattle.plane.specs.Vector.{turn_of}
use Rattle.plane.specs.Segment.{to_segment_of}
use Rattle.plane.specs.declared.Point.{Point}
use Rattle.ring.specs.Ring.{count, point_at, next_of, previous_vertex}
use Rattle.simplify.specs.Simplify.{stays_of}
use Rattle.simplify.proofs.stays.Goals as goal

module _ (r : List Float) (tol : Float) (i : ℕ) {p q : ℕ} {a b c : Point} {t : Float} (ep : p ≡ previous_vertex i (count r)) (ea : a ≡ point_at r p) (eb : b ≡ point_at r i)
    (eq : q ≡ next_of i (count r)) (ec : c ≡ point_at r q) (et : t ≡ turn_of a b c) where
  left : lt f0 t ≡ true → true ≡ stays_of r tol i
  unfolding stays_of
  left h = rw (← ep, ← ea, ← eb, ← eq, ← ec, ← et, h)

  right : lt f0 t ≡ false → lt t f0 ≡ true → true ≡ stays_of r tol i
  unfolding stays_of
  right h k = rw (← ep, ← ea, ← eb, ← eq, ← ec, ← et, h, k)

  far : {d : Float} → lt f0 t ≡ false → lt t f0 ≡ false → d ≡ to_segment_of b a c → lt tol d ≡ stays_of r tol i
  unfolding stays_of
  far h k e = rw (← ep, ← ea, ← eb, ← eq, ← ec, ← et, h, k, e)

pub returns-then-t : goal.returns-then-t
returns-then-t c =
    left _ _ _ c.previous.ensures.0 c.point_at-a.ensures c.point_at-b.ensures c.next.ensures.0 c.point_at-c.ensures c.turn-t.ensures c.if-t.true

pub returns-then-t-2 : goal.returns-then-t-2
returns-then-t-2 c =
    right _ _ _ c.previous.ensures.0 c.point_at-a.ensures c.point_at-b.ensures c.next.ensures.0 c.point_at-c.ensures c.turn-t.ensures c.if-t.false c.if-t-2.true

pub returns : goal.returns
returns c =
    far _ _ _ c.previous.ensures.0 c.point_at-a.ensures c.point_at-b.ensures c.next.ensures.0 c.point_at-c.ensures c.turn-t.ensures c.if-t.false c.if-t-2.false c.point_to_segment_distance.ensures
