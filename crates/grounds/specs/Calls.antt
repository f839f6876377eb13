-- What the call answers: the refusal of what is lent, or the collision answer with its ground. Definitions only.
use Rattle.std.specs.Prelude.{ℕ, List, Float, Option, Result, Ok, Err}
use Rattle.plane.specs.declared.Point.{Point}
use Rattle.refusals.specs.Rows.{of_moving}
use Rattle.refusals.specs.declared.Refusal.{Refusal}
use Rattle.refusals.specs.Answers.{Outcome, answers, refuses, outcome, tells}
use Rattle.collision.specs.declared.Hit.{Hit}
use Rattle.grounds.specs.Grounds.{ground_number}
use Rattle.grounds.specs.Explanation.{explanation_of}
use Rattle.grounds.specs.declared.Explanation.{Explanation}

-- the ground's number, the hit where there is one, the other pairs at its distance, and the three counts
pub record Account : Type 0 where
  pub ground : ℕ
  pub hit : Option Hit
  pub others : ℕ
  pub near : ℕ
  pub between : ℕ
  pub far : ℕ

abbrev pub account : Explanation → Account
account x = record {
  ground = ground_number x.ground;
  hit = x.tally.best;
  others = x.tally.others;
  near = x.tally.near;
  between = x.tally.between;
  far = x.tally.far;
}

abbrev pub explained : Result Explanation Refusal → Outcome Account
explained (Ok x) = answers (account x)
explained (Err r) = refuses (tells r)

abbrev pub explain_call : List Float → List Float → Point → Float → Outcome Account
explain_call st orb move tol = outcome (of_moving st orb move tol) (account (explanation_of st orb move tol))
