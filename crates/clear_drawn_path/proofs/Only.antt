-- Two answers that say the same of a path are equal. Assumes nothing.
use mathlib.Core.Path.{◌≡◌}
use Rattle.std.specs.Prelude.{Result}
use Rattle.refusals.specs.Answers.{answered}
use Rattle.refusals.specs.declared.Refusal.{Refusal}
use Rattle.refusals.proofs.Calls.{answered_only}
use Rattle.clear_drawn_path.specs.declared.PathFound.{PathFound}

pub path_judged_only : (a b : Result PathFound Refusal) → answered a ≡ answered b → a ≡ b
path_judged_only a b h = answered_only a b h
