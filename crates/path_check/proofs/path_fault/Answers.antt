-- `path_check::path_fault` meets its contract. The invariant: the points from i on decide. Assumes nothing.
use native.Mathlib.Omega.{arith}
use Prim.Native.Nat.{◌-◌}
use mathlib.Core.Path.{◌≡◌, sym, ◌∙◌}
use mathlib.Core.List.{List}
use lib.Ieee.{Float}
use Rattle.ring.specs.Ring.{count}
use Rattle.path_check.specs.Path.{fault_at, first_fault, path_fault}
use Rattle.path_check.proofs.Search.{fault_on, fault_here, fault_none}
use Rattle.path_check.proofs.path_fault.Goals as goal

-- all points are left
start : (st orb : List Float) (tol : Float) (path : List Float) → path_fault st orb tol path ≡ first_fault (fault_at st orb tol path) 0 (count path - 0)
unfolding path_fault
start st orb tol path = let e : count path - 0 ≡ count path = omega arith in rw e

pub loop-i-init : goal.loop-i-init
loop-i-init c = start _ _ _ _

pub loop-i-preserved : goal.loop-i-preserved
loop-i-preserved c =
    c.loop-i.invariant ∙ fault_on _ _ _ c.loop-i-test.true c.fault_at.ensures c.in_default.is

pub returns-in-Some : goal.returns-in-Some
returns-in-Some c =
    sym (c.loop-i.invariant ∙ fault_here _ _ _ c.loop-i-test.true c.fault_at.ensures c.in-Some.is)

pub returns : goal.returns
returns c = sym (c.loop-i.invariant ∙ fault_none _ _ _ c.loop-i-test.false)
