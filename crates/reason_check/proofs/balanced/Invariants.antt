use Prim.Native.Nat.{◌/◌}
use lib.ListN.{length}
use Rattle.reasons.specs.Check.{corner, line_from, line_to}
use Rattle.reason_check.proofs.Marks.{Counted}
use Rattle.reason_check.proofs.balanced.Given as goal

abbrev pub invariant-loop-j : goal.invariant-loop-j
invariant-loop-j l = Counted l.h (line_from l.ls) (line_to l.ls) (corner l.st) (length l.st / 2) l.up l.down l.j
