-- What the call answers: the refusal of what is lent, or the first leg that is not clear. Definitions only.
use Rattle.std.specs.Prelude.{◌/◌, List, map, length, ℤ}
use Rattle.refusals.specs.Answers.{Outcome, outcome}
use Rattle.shifted.specs.Shifted.{up_of}
use Rattle.clear_path.specs.Rows.{of_whole_path}
use Rattle.clear_path.specs.Path.{leg_found, first_leg}
use Rattle.clear_path.specs.declared.PathGround.{PathGround}

-- leg 0, leg 1 and so on, as many as there are points
abbrev pub path_ground : List ℤ → List ℤ → List ℤ → PathGround
path_ground st orb path = first_leg (leg_found (map up_of st) orb path) 0 (length path / 2)

abbrev pub clear_path_call : List ℤ → List ℤ → List ℤ → Outcome PathGround
clear_path_call st orb path = outcome (of_whole_path st orb path) (path_ground st orb path)
