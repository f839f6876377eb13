-- The line that is printed, as bytes. Definitions only.
use Rattle.std.specs.Prelude.{ℕ, List, [], ◌∷◌, ◌++◌, Option, None, Some}
use Rattle.std.specs.Float.{binary64}
use Rattle.std.specs.Float.Ieee.{to_bits}
use Rattle.print.specs.Digits.{decimal, hex}
use Rattle.print.specs.Text.{space, newline}
use Rattle.refusals.specs.Answers.{Outcome, answers, refuses}
use Rattle.collision.specs.declared.Hit.{Hit}
use Rattle.grounds.specs.Calls.{Account}
use Rattle.lines.specs.Lines.{number_line}

-- "hit ", the kind, the stationary index and the orbiting one, a space after each
unfoldable pub hit_front : ℕ → ℕ → ℕ → List ℕ
hit_front kind stationary orbiting =
    (104 ∷ 105 ∷ 116 ∷ 32 ∷ []) ++ (decimal kind ++ (space ++ (decimal stationary ++ (space ++ (decimal orbiting ++ space)))))

-- then the distance's bits in 16 hex digits and the other pairs at it
unfoldable pub hit_line : Hit → ℕ → List ℕ
hit_line v others =
    hit_front v.kind v.stationary v.orbiting ++ (hex (to_bits binary64 v.distance) ++ (space ++ (decimal others ++ newline)))

-- "clear " and the ground's number
unfoldable pub clear_line : ℕ → List ℕ
clear_line g = (99 ∷ 108 ∷ 101 ∷ 97 ∷ 114 ∷ 32 ∷ []) ++ (decimal g ++ newline)

-- a hit, or why there is none
abbrev pub found_line : Option Hit → Account → List ℕ
found_line None a = clear_line a.ground
found_line (Some v) a = hit_line v a.others

-- what the call answers
abbrev pub outcome_line : Outcome Account → List ℕ
outcome_line (answers a) = found_line a.hit a
outcome_line (refuses r) = number_line r.number
