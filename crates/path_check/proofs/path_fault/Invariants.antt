use Prim.Native.Nat.{◌-◌}
use mathlib.Core.Path.{◌≡◌}
use Rattle.path_check.specs.Path.{fault_at, first_fault, path_fault}
use Rattle.path_check.proofs.path_fault.Given as goal

abbrev pub invariant-loop-i : goal.invariant-loop-i
invariant-loop-i l = path_fault l.stationary l.orbiting l.tol l.path ≡ first_fault (fault_at l.stationary l.orbiting l.tol l.path) l.i (l.n - l.i)
