-- `centroid::gathered` meets its contract. The invariant: the sums are those over the first i edges. Assumes nothing.
use Rattle.std.proofs.Common.{◌≡◌, ℕ, ◌+◌, List, refl, ap, ◌∙◌, add-one, arith}
use lib.Ieee.{Float}
use Rattle.plane.specs.declared.Point.{Point}
use Rattle.ring.specs.Ring.{count, point_at, next_of}
use Rattle.centroid.specs.Centroid.{grown_of, moments_to}
use Rattle.centroid.specs.declared.Moments.{Moments}
use Rattle.centroid.proofs.gathered.Goals as goal

-- one edge more
step : (r : List Float) (i : ℕ) {m o : Moments} {p q : Point} {j : ℕ} → m ≡ moments_to r i → p ≡ point_at r i → j ≡ next_of i (count r) → q ≡ point_at r j → o ≡ grown_of m p q → o ≡ moments_to r (i + 1)
unfolding moments_to
step r i h a b d e = rw (add-one i, e, h, a, d, b)

pub loop-i-init : goal.loop-i-init
unfolding moments_to
loop-i-init c = refl

pub loop-i-preserved : goal.loop-i-preserved
loop-i-preserved c =
    step _ _ c.loop-i.invariant c.point_at.ensures c.next.ensures.0 c.point_at-in-loop-i.ensures c.grown-m.ensures

pub returns : goal.returns
returns c = c.loop-i.invariant ∙ ap (moments_to _) (omega arith)
