-- The map of the answer tells every two apart. Assumes nothing.
use mathlib.Core.Path.{◌≡◌, ap}
use Rattle.std.specs.Prelude.{Result, Ok, Err}
use Rattle.refusals.specs.Answers.{refuses, tells}
use Rattle.refusals.specs.declared.Refusal.{Refusal}
use Rattle.refusals.proofs.Calls.{answered_only}
use Rattle.clear_aside.specs.Aside.{least}
use Rattle.clear_aside.specs.declared.Found.{Found}
use Rattle.clear_aside.specs.declared.Found.TheVariants.{Clear, Edge, Enclosed}
use Rattle.clear_drawn.specs.Calls.{judged}

least_only : (a b : Found) → least a ≡ least b → a ≡ b
least_only (Clear h) (Clear k) e = cc
least_only (Clear h) (Edge j) e = cc
least_only (Clear h) (Enclosed k) e = cc
least_only (Edge i) (Clear k) e = cc
least_only (Edge i) (Edge j) e = cc
least_only (Edge i) (Enclosed k) e = cc
least_only (Enclosed h) (Clear k) e = cc
least_only (Enclosed h) (Edge j) e = cc
least_only (Enclosed h) (Enclosed k) e = cc

pub judged_only : (a b : Result Found Refusal) → judged a ≡ judged b → a ≡ b
judged_only (Ok f) (Ok g) h = cc (least_only f g (cc))
judged_only (Ok f) (Err r) h = cc
judged_only (Err r) (Ok g) h = cc
judged_only (Err r) (Err s) h =
    let t : tells r ≡ tells s = cc in
    answered_only (Err r) (Err s) (ap refuses t)
