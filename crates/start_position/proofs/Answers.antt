-- No two answers say the same. Assumes nothing.
use mathlib.Core.Path.{◌≡◌}
use Rattle.std.specs.Prelude.{Result}
use Rattle.plane.specs.declared.Point.{Point}
use Rattle.refusals.specs.Answers.{answered}
use Rattle.refusals.specs.declared.Refusal.{Refusal}
use Rattle.refusals.proofs.Calls.{answered_only}

pub started_only : (a b : Result Point Refusal) → answered a ≡ answered b → a ≡ b
started_only a b h = answered_only a b h
