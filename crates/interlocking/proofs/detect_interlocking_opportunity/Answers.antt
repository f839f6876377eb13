-- `interlocking::detect_interlocking_opportunity` meets its contract. The invariant: the vertices from i on decide. Assumes nothing.
use native.Mathlib.Omega.{arith}
use Prim.Native.Nat.{◌-◌}
use mathlib.Core.Path.{◌≡◌, sym, ◌∙◌}
use mathlib.Core.List.{List}
use lib.Ieee.{Float}
use Rattle.plane.specs.declared.Point.{Point}
use Rattle.ring.specs.Ring.{count}
use Rattle.interlocking.specs.Interlocking.{least_of, candidate_of, first_found, interlock_of}
use Rattle.interlocking.proofs.Search.{found_on, found_here, found_none}
use Rattle.interlocking.proofs.detect_interlocking_opportunity.Goals as goal

-- all vertices are left
start : (s o : List Float) (current : Point) (tol : Float) {least : Float} → least ≡ least_of o → interlock_of s o current tol ≡ first_found (candidate_of s o current tol least) 0 (count s - 0)
unfolding interlock_of
start s o current tol h = let e : count s - 0 ≡ count s = omega arith in rw (e, h)

pub loop-i-init : goal.loop-i-init
loop-i-init c = start _ _ _ _ c.least_opening-least.ensures

pub loop-i-preserved : goal.loop-i-preserved
loop-i-preserved c =
    c.loop-i.invariant ∙ found_on _ _ _ c.loop-i-test.true c.candidate.ensures c.in_default.is

pub returns-in-Some : goal.returns-in-Some
returns-in-Some c =
    sym (c.loop-i.invariant ∙ found_here _ _ _ c.loop-i-test.true c.candidate.ensures c.in-Some.is)

pub returns : goal.returns
returns c = sym (c.loop-i.invariant ∙ found_none _ _ _ c.loop-i-test.false)
