use Prim.Native.Nat.{◌-◌}
use mathlib.Core.Path.{◌≡◌}
use Rattle.clear_path.specs.Path.{leg_found, first_leg}
use Rattle.clear_path.proofs.first_leg.Given as goal

abbrev pub invariant-loop-i : goal.invariant-loop-i
invariant-loop-i l =
    first_leg (leg_found l.st l.orbiting l.path) 0 l.n ≡ first_leg (leg_found l.st l.orbiting l.path) l.i (l.n - l.i)
