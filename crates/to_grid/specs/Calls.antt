-- What the call refuses and answers, and what it leaves in the room. Definitions only.
use Rattle.std.specs.Prelude.{ℕ, Bool, List, [], ◌∷◌, map, length, ℤ, Float}
use Rattle.ring.specs.Ring.{count}
use Rattle.ring.specs.Room.{laid}
use Rattle.refusals.specs.Bounds.{every}
use Rattle.refusals.specs.Lists.{fault_of, points_extent}
use Rattle.refusals.specs.Refusals.{refused_setting, refused_grid, unless, first_of}
use Rattle.refusals.specs.Rings.{within}
use Rattle.refusals.specs.Screens.{wrong_number, wrong_fit}
use Rattle.refusals.specs.Answers.{Outcome, outcome, left}
use Rattle.refusals.specs.Refusals.{Told}
use Rattle.to_grid.specs.Grid.{nearest, fits_grid}

-- a grid has 1 to 1,000,000 units in 1
abbrev pub units_ok : ℕ → Bool
units_ok units = within 1 1000000 units

-- 3 for the units
abbrev pub wrong_units : ℕ → Told
wrong_units units = unless (units_ok units) refused_setting 0

-- 14 where a number times units, exactly, is above 1,000,000 in size
abbrev pub wrong_grid : ℕ → List Float → Told
wrong_grid units xs = unless (every (fits_grid units) xs) refused_grid 0

-- 2, 3 and 14, in this order
unfoldable pub grid_numbers : List Float → ℕ → Told
grid_numbers xs units = first_of (wrong_number xs ∷ wrong_units units ∷ wrong_grid units xs ∷ [])

-- first 1 and 9: a list of 0 to 10,001 points
unfoldable pub of_grid : List Float → ℕ → Told
of_grid xs units = first_of (fault_of (points_extent xs ∷ []) ∷ grid_numbers xs units ∷ [])

-- last 5: the room is shorter than the list
unfoldable pub to_grid_refusal : List Float → ℕ → ℕ → Told
to_grid_refusal xs units size = first_of (of_grid xs units ∷ wrong_fit (length xs) size ∷ [])

-- how many points were written
abbrev pub to_grid_call : List Float → ℕ → ℕ → Outcome ℕ
to_grid_call xs units size = outcome (to_grid_refusal xs units size) (count xs)

-- each number on the grid, and then what the room held
abbrev pub to_grid_room : List Float → ℕ → List ℤ → List ℤ
to_grid_room xs units room = left (to_grid_refusal xs units (length room)) (laid (map (nearest units) xs) room) room
