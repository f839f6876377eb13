-- `vectors::fit::is_visited` meets its contract. The invariant: the positions from i on decide. Assumes nothing.
use native.Mathlib.Omega.{arith}
use Prim.Native.Nat.{ℕ, ◌-◌}
use mathlib.Core.Path.{◌≡◌, ◌∙◌}
use mathlib.Core.Bool.{Bool, true, false}
use mathlib.Core.List.{List}
use lib.Ieee.{Float, lt}
use Rattle.scalar.specs.Float.{◌⊗◌}
use Rattle.plane.specs.Vector.{distance_of}
use Rattle.plane.specs.declared.Point.{Point}
use Rattle.ring.specs.Ring.{count, point_at}
use Rattle.ring.specs.Each.{each}
use Rattle.ring.proofs.Each.{each_on, each_off, each_end}
use Rattle.vectors.specs.Fit.{f10, apart_from, visited_of}
use Rattle.vectors.proofs.fit.is_visited.Goals as goal

-- all positions are left
start : (p : Point) (v : List Float) (tol : Float) → each (apart_from p v tol) 0 (count v) ≡ each (apart_from p v tol) 0 (count v - 0)
start p v tol = let e : count v - 0 ≡ count v = omega arith in rw e

module _ (p : Point) (v : List Float) (tol : Float) (i : ℕ) {q : Point} {b : Bool} (at : q ≡ point_at v i) (e : b ≡ lt (distance_of p q) (tol ⊗ f10)) where
  is_near : b ≡ true → apart_from p v tol i ≡ false
  unfolding apart_from
  is_near t = rw (← at, ← e, t)

  is_far : b ≡ false → apart_from p v tol i ≡ true
  unfolding apart_from
  is_far t = rw (← at, ← e, t)

pub loop-i-init : goal.loop-i-init
loop-i-init c = start _ _ _

pub returns-then-is_near : goal.returns-then-is_near
unfolding visited_of
returns-then-is_near c =
    let t = c.loop-i-test.true in
    rw (c.loop-i.invariant, each_off _ _ _ t (is_near _ _ _ _ c.point_at.ensures c.is_near.ensures c.if-is_near.true))

pub loop-i-preserved : goal.loop-i-preserved
loop-i-preserved c =
    let t = c.loop-i-test.true in
    c.loop-i.invariant ∙ each_on _ _ _ t (is_far _ _ _ _ c.point_at.ensures c.is_near.ensures c.if-is_near.false)

pub returns : goal.returns
unfolding visited_of
returns c = rw (c.loop-i.invariant, each_end _ _ _ c.loop-i-test.false)
