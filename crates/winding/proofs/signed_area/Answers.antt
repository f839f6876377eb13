-- `winding::signed_area` meets its contract. The invariant: the sum is that over the first i edges. Assumes nothing.
use native.Mathlib.Omega.{arith}
use Prim.Native.Nat.{ℕ, ◌+◌, ◌≤◌}
use mathlib.Core.Path.{◌≡◌, refl}
use mathlib.Core.List.{List}
use native.Mathlib.Numerals.{add-one}
use lib.Ieee.{Float}
use Rattle.scalar.specs.Float.{◌⊘◌, f2}
use Rattle.plane.specs.declared.Point.{Point}
use Rattle.ring.specs.Ring.{count, point_at, next_of}
use Rattle.winding.specs.Winding.{area_added, area_sum, area_of}
use Rattle.winding.proofs.signed_area.Goals as goal

-- one edge more
step : (r : List Float) (i : ℕ) {a b : Float} {p q : Point} {j : ℕ} → a ≡ area_sum r i → p ≡ point_at r i → j ≡ next_of i (count r) → q ≡ point_at r j → b ≡ area_added a p q → b ≡ area_sum r (i + 1)
unfolding area_sum
step r i h k d f e = rw (add-one i, e, h, k, f, d)

end : (r : List Float) (i : ℕ) {a : Float} → i ≤ count r → count r ≤ i → a ≡ area_sum r i → a ⊘ f2 ≡ area_of r
unfolding area_of
end r i lo hi h = let e : i ≡ count r = omega arith in rw (h, e)

pub loop-i-init : goal.loop-i-init
unfolding area_sum
loop-i-init c = refl

pub loop-i-preserved : goal.loop-i-preserved
loop-i-preserved c =
    step _ _ c.loop-i.invariant c.point_at.ensures c.next.ensures.0 c.point_at-in-loop-i.ensures c.added-area.ensures

pub returns : goal.returns
returns c = end _ _ c.loop-i.auto.i-end c.loop-i-test.false c.loop-i.invariant
