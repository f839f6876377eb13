-- No two answers say the same. Assumes nothing.
use mathlib.Core.Path.{◌≡◌}
use Rattle.std.specs.Prelude.{Result}
use Rattle.refusals.specs.Answers.{answered}
use Rattle.refusals.specs.declared.Refusal.{Refusal}
use Rattle.refusals.proofs.Calls.{answered_only}
use Rattle.mending.specs.declared.answer.Sizes.{Sizes}

pub mended_only : (a b : Result Sizes Refusal) → answered a ≡ answered b → a ≡ b
mended_only a b h = answered_only a b h
