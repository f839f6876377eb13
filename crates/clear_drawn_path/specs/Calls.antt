-- What the call answers: the refusal of what is lent, or the first leg that is not clear. Definitions only.
use Rattle.std.specs.Prelude.{ℕ, ◌/◌, Bool, List, length, Float}
use Rattle.ring.specs.Ring.{next_of}
use Rattle.refusals.specs.Answers.{Outcome, outcome}
use Rattle.drawn_aside.specs.Found.{Least}
use Rattle.drawn_rows.specs.Rows.{grid_of, of_drawn_path}
use Rattle.clear_drawn.specs.Legs.{leg_least}
use Rattle.drawn_aside.specs.Told.{ring_up}
use Rattle.clear_drawn_path.specs.Path.{leg_count, legs_from}
use Rattle.clear_drawn_path.specs.declared.PathFound.{PathFound}

-- on the leg from the point i to the next, after the last to the first
unfoldable pub path_least : List Float → List Float → List Float → ℕ → ℕ → Least
path_least xs ys path n i = leg_least (ring_up n xs) (grid_of n ys) (grid_of n path) i (next_of i (length path / 2))

abbrev pub path_found : List Float → List Float → List Float → Bool → ℕ → PathFound
path_found xs ys path closed n = legs_from (path_least xs ys path n) 0 (leg_count (length path / 2) closed)

abbrev pub clear_path_call : List Float → List Float → List Float → Bool → ℕ → Outcome PathFound
clear_path_call xs ys path closed n = outcome (of_drawn_path xs ys path n) (path_found xs ys path closed n)
