-- No two answers say the same. Assumes nothing.
use Prim.Native.Nat.{ℕ}
use mathlib.Core.Path.{◌≡◌}
use Rattle.std.specs.Prelude.{Option, Result}
use Rattle.refusals.specs.Answers.{answered}
use Rattle.refusals.specs.declared.Refusal.{Refusal}
use Rattle.refusals.proofs.Calls.{answered_only}

pub selected_only : (a b : Result (Option ℕ) Refusal) → answered a ≡ answered b → a ≡ b
selected_only a b h = answered_only a b h
