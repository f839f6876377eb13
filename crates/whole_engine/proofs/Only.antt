-- Two answers that are an integer, or a refusal, and say the same are equal. Assumes nothing.
use mathlib.Core.Path.{◌≡◌}
use lib.IntN.{ℤ}
use Rattle.std.specs.Prelude.{Result}
use Rattle.refusals.specs.Answers.{answered}
use Rattle.refusals.specs.declared.Refusal.{Refusal}
use Rattle.refusals.proofs.Calls.{answered_only}

pub integer_only : (a b : Result ℤ Refusal) → answered a ≡ answered b → a ≡ b
integer_only a b h = answered_only a b h
