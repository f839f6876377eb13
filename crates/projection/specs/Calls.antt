-- What the calls answer: the refusal of what is lent, or the parameter with its foot, the distance, the nearness. Definitions only.
use Rattle.std.specs.Prelude.{ℕ, Bool, Float, Result, Ok, Err}
use Rattle.plane.specs.Segment.{project_of, to_segment_of, near_segment_of}
use Rattle.plane.specs.declared.Point.{Point}
use Rattle.refusals.specs.Answers.{Outcome, answers, refuses, outcome, tells}
use Rattle.refusals.specs.Rows.{of_points3, of_near}
use Rattle.projection.specs.Foot.{foot_of, foot_code}
use Rattle.refusals.specs.declared.Refusal.{Refusal}
use Rattle.projection.specs.declared.answer.Projection as answer

-- a parameter, and the code of where its foot sits
pub record Projection : Type 0 where
  pub parameter : Float
  pub foot : ℕ

abbrev pub projected : Result answer.Projection Refusal → Outcome Projection
projected (Ok p) = answers (record { parameter = p.parameter; foot = foot_code p.foot })
projected (Err r) = refuses (tells r)

abbrev pub project_call : Point → Point → Point → Outcome Projection
project_call p a b = outcome (of_points3 p a b) (record { parameter = project_of p a b; foot = foot_code (foot_of p a b) })

abbrev pub distance_call : Point → Point → Point → Outcome Float
distance_call p a b = outcome (of_points3 p a b) (to_segment_of p a b)

abbrev pub near_call : Point → Point → Point → Float → Outcome Bool
near_call p a b tol = outcome (of_near p a b tol) (near_segment_of p a b tol)
