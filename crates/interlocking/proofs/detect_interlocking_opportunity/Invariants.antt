use Prim.Native.Nat.{◌-◌}
use mathlib.Core.Path.{◌≡◌}
use Rattle.interlocking.specs.Interlocking.{candidate_of, first_found, interlock_of}
use Rattle.interlocking.proofs.detect_interlocking_opportunity.Given as goal

abbrev pub invariant-loop-i : goal.invariant-loop-i
invariant-loop-i l = interlock_of l.stationary l.orbiting l.current l.tolerance ≡ first_found (candidate_of l.stationary l.orbiting l.current l.tolerance l.least) l.i (l.n - l.i)
