use Prim.Native.Nat.{◌+◌, ◌-◌}
use mathlib.Core.Path.{◌≡◌}
use Rattle.print.specs.Digits.{up_to, width}
use Rattle.print.proofs.width_of.Given as goal

abbrev pub invariant-loop-w : goal.invariant-loop-w
invariant-loop-w l = width l.n ≡ l.w + up_to (20 - l.w) l.rest
