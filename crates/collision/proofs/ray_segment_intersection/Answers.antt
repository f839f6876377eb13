-- `collision::ray_segment_intersection` meets its contract: the parameter along the segment, then the test of the denominator, and the other parameter where it is needed. Assumes nothing.
use mathlib.Core.Path.{◌≡◌, refl, sym}
use mathlib.Core.Bool.{Bool, true, false, cond, and-true, and-false}
use lib.Ieee.{Float, lt}
use Rattle.scalar.specs.Float.{◌⊘◌}
use Rattle.scalar.specs.Scalar.{abs_of}
use Rattle.plane.specs.Vector.{minus_of, cross_of}
use Rattle.plane.specs.declared.Point.{Point}
use Rattle.collision.specs.Ray.{ray_within, ray_of}
use Rattle.collision.specs.Parts.{within_segment, in_front}
use Rattle.std.specs.Prelude.{Option, None}
use Rattle.collision.proofs.ray_segment_intersection.Goals as goal

module _ (o d p q : Point) (tol : Float) {seg diff : Point} {den y : Float} {on : Bool} (es : seg ≡ minus_of q p) (ed : den ≡ cross_of d seg) (f : diff ≡ minus_of p o) (ey : y ≡ cross_of diff d)
    (eo : on ≡ within_segment (y ⊘ den) tol) where
  beside : on ≡ false → None ≡ ray_of o d p q tol
  unfolding ray_of ray_within
  beside h = rw (← es, ← ed, ← f, ← ey, ← eo, h, and-false _) (sym (either (lt (abs_of den) tol)))
    where
      either : (b : Bool) → ◌≡◌ {A = Option Float} (cond b None None) None
      either true = refl
      either false = refl

  module _ {small : Bool} (h : on ≡ true) (ea : small ≡ lt (abs_of den) tol) where
    parallel : small ≡ true → None ≡ ray_of o d p q tol
    unfolding ray_of
    parallel t = rw (← es, ← ed, ← ea, t)

    within : {x : Float} → small ≡ false → x ≡ cross_of diff seg → {r : Option Float} → r ≡ in_front (x ⊘ den) tol → r ≡ ray_of o d p q tol
    unfolding ray_of ray_within
    within t ex e = rw (e, ex, ← es, ← ed, ← ea, t, ← f, ← ey, ← eo, h, and-true _)

pub returns-then-is_small : goal.returns-then-is_small
returns-then-is_small c =
    parallel _ _ _ _ _ c.minus-seg.ensures c.cross-den.ensures c.minus-diff.ensures c.cross.ensures c.within_segment.ensures c.if-within_segment.true c.is_small.ensures
    c.if-is_small.true

pub returns-else-is_small : goal.returns-else-is_small
returns-else-is_small c =
    within _ _ _ _ _ c.minus-seg.ensures c.cross-den.ensures c.minus-diff.ensures c.cross.ensures c.within_segment.ensures c.if-within_segment.true c.is_small.ensures
    c.if-is_small.false c.cross-then-within_segment.ensures c.in_front.ensures

pub returns-else-within_segment : goal.returns-else-within_segment
returns-else-within_segment c =
    beside _ _ _ _ _ c.minus-seg.ensures c.cross-den.ensures c.minus-diff.ensures c.cross.ensures c.within_segment.ensures c.if-within_segment.false
