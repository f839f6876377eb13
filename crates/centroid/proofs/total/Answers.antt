-- `centroid::total` meets its contract. The invariant: the sum is that of the first i vertices. Assumes nothing.
use Rattle.std.proofs.Common.{◌≡◌, ℕ, ◌+◌, List, refl, ap, ◌∙◌, add-one, arith}
use lib.Ieee.{Float}
use Rattle.plane.specs.Vector.{plus_of}
use Rattle.plane.specs.declared.Point.{Point}
use Rattle.ring.specs.Ring.{point_at}
use Rattle.centroid.specs.Centroid.{total_to}
use Rattle.centroid.proofs.total.Goals as goal

-- one vertex more
step : (r : List Float) (i : ℕ) {s t p : Point} → s ≡ total_to r i → p ≡ point_at r i → t ≡ plus_of s p → t ≡ total_to r (i + 1)
unfolding total_to
step r i h a e = rw (e, h, a, add-one i)

pub loop-i-init : goal.loop-i-init
unfolding total_to
loop-i-init c = refl

pub loop-i-preserved : goal.loop-i-preserved
loop-i-preserved c =
    step _ _ c.loop-i.invariant c.point_at.ensures c.plus-sum.ensures

pub returns : goal.returns
returns c = c.loop-i.invariant ∙ ap (total_to _) (omega arith)
