-- The map of the answer tells every two apart. Assumes nothing.
use mathlib.Core.Path.{◌≡◌, refl, ap}
use Rattle.std.specs.Prelude.{Result, Ok, Err}
use Rattle.refusals.specs.declared.Refusal.{Refusal}
use Rattle.refusals.specs.Answers.{refuses, tells}
use Rattle.refusals.proofs.Calls.{answered_only}
use Rattle.reason_check.specs.Told.{ground}
use Rattle.reason_check.specs.declared.Ground.{Ground}
use Rattle.reason_check.specs.declared.Ground.TheVariants.{Clear, Edge, Enclosed}
use Rattle.clear_calls.specs.Calls.{judged}

ground_only : (a b : Ground) → ground a ≡ ground b → a ≡ b
ground_only Clear Clear h = refl
ground_only Clear (Edge j) h = cc
ground_only Clear Enclosed h = cc
ground_only (Edge i) Clear h = cc
ground_only (Edge i) (Edge j) h = cc
ground_only (Edge i) Enclosed h = cc
ground_only Enclosed Clear h = cc
ground_only Enclosed (Edge j) h = cc
ground_only Enclosed Enclosed h = refl

pub judged_only : (a b : Result Ground Refusal) → judged a ≡ judged b → a ≡ b
judged_only (Ok g) (Ok k) h = cc (ground_only g k (cc))
judged_only (Ok g) (Err r) h = cc
judged_only (Err r) (Ok k) h = cc
judged_only (Err r) (Err s) h =
    let t : tells r ≡ tells s = cc in
    answered_only (Err r) (Err s) (ap refuses t)
