-- `overlap::meets_along` meets its contract. The invariant: the edges from i on decide. Assumes nothing.
use native.Mathlib.Omega.{arith}
use Prim.Native.Nat.{ℕ, ◌-◌}
use mathlib.Core.Path.{◌≡◌, sym, ◌∙◌}
use mathlib.Core.Bool.{Bool}
use mathlib.Core.List.{List}
use lib.Ieee.{Float}
use Rattle.plane.specs.declared.Point.{Point}
use Rattle.ring.specs.Ring.{count}
use Rattle.ring.specs.Each.{each}
use Rattle.ring.proofs.Each.{each_on, each_off, each_end}
use Rattle.overlap.specs.Overlap.{axis_of, meets_on, meets_at, meets_along}
use Rattle.overlap.proofs.meets_along.Goals as goal

-- all edges are left
start : (a b r : List Float) (tol : Float) → meets_along a b r tol ≡ each (meets_at a b r tol) 0 (count r - 0)
unfolding meets_along
start a b r tol = let e : count r - 0 ≡ count r = omega arith in rw e

-- what was found at the edge i
tested : (a b r : List Float) (tol : Float) (i : ℕ) {axis : Point} {v w : Bool} → axis ≡ axis_of r i → v ≡ meets_on a b axis tol → v ≡ w → meets_at a b r tol i ≡ w
tested a b r tol i e h t = rw (← e, ← h) t

pub loop-i-init : goal.loop-i-init
loop-i-init c = start _ _ _ _

pub loop-i-preserved : goal.loop-i-preserved
loop-i-preserved c =
    let t = tested _ _ _ _ _ c.axis_of.ensures c.meets_on.ensures c.if-not-meets_on.false in
    c.loop-i.invariant ∙ each_on _ _ _ c.loop-i-test.true t

pub returns-then-not-meets_on : goal.returns-then-not-meets_on
returns-then-not-meets_on c =
    let t = tested _ _ _ _ _ c.axis_of.ensures c.meets_on.ensures c.if-not-meets_on.true in
    sym (c.loop-i.invariant ∙ each_off _ _ _ c.loop-i-test.true t)

pub returns : goal.returns
returns c = sym (c.loop-i.invariant ∙ each_end _ _ _ c.loop-i-test.false)
