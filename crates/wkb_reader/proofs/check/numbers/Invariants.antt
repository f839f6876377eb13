use Prim.Native.Nat.{◌-◌}
use mathlib.Core.Path.{◌≡◌}
use Rattle.wkb_reader.proofs.Numbers.{check_from}
use Rattle.wkb_reader.proofs.check.numbers.Given as goal

abbrev pub invariant-loop-j : goal.invariant-loop-j
invariant-loop-j l = check_from l.f l.m 0 ≡ check_from l.f (l.m - l.j) l.j
