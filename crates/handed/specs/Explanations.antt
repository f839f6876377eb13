-- What an exported explanation writes to its cells, by the outcome of the call. Definitions only.
use Rattle.std.specs.Prelude.{ℕ, Option, None, Some}
use Rattle.refusals.specs.Answers.{Outcome, answers, refuses}
use Rattle.collision.specs.declared.Hit.{Hit}
use Rattle.grounds.specs.Calls.{Account}

-- the hit of an answer, or nothing
abbrev pub hit_in : Outcome Account → Outcome (Option Hit)
hit_in (answers a) = answers a.hit
hit_in (refuses r) = refuses r

-- the other pairs at its distance, where there is a hit, and else what the cell held
unfoldable pub with_hit : Option Hit → ℕ → ℕ → ℕ
with_hit None others held = held
with_hit (Some v) others held = others

unfoldable pub others_told : Outcome Account → ℕ → ℕ
others_told (answers a) held = with_hit a.hit a.others held
others_told (refuses r) held = held

-- what every answer tells
abbrev pub ground_in : Account → ℕ
ground_in a = a.ground

abbrev pub near_in : Account → ℕ
near_in a = a.near

abbrev pub between_in : Account → ℕ
between_in a = a.between

abbrev pub far_in : Account → ℕ
far_in a = a.far
