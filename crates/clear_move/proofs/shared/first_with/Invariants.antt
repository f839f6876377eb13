-- The edges from i on decide.
use Rattle.std.proofs.Common.{◌-◌}
use Rattle.reasons.proofs.First.{Rest}
use Rattle.clear_move.specs.Shared.{same_line}
use Rattle.clear_move.proofs.shared.first_with.Given as goal

abbrev pub invariant-loop-i : goal.invariant-loop-i
invariant-loop-i l = Rest (λ k. same_line l.ls k l.j) l.j l.i
