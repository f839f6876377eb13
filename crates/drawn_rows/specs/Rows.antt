-- The refusals of the calls on drawn moves: 1, 8 and 9 of the lists; 2 of a coordinate that is not finite or above 1,000,000 in
-- size, and of a position that is not finite; 3 of the units; 14 of what is off the grid. A move is a path of two points.
-- Definitions only.
use Rattle.std.specs.Prelude.{ℕ, ◌/◌, Bool, ◌&&◌, List, [], ◌∷◌, map, leb, length, ℤ, Float}
use Rattle.ring.specs.Each.{each}
use Rattle.refusals.specs.Bounds.{every}
use Rattle.refusals.specs.Refusals.{refused_setting, refused_grid, unless, first_of}
use Rattle.refusals.specs.Lists.{Extent, fault_of, polygon_extent}
use Rattle.refusals.specs.Screens.{wrong_number, wrong_infinite}
use Rattle.refusals.specs.Refusals.{Told}
use Rattle.whole_engine.specs.Rows.{wrong_whole}
use Rattle.clear_path.specs.Rows.{is_placed}
use Rattle.to_grid.specs.Grid.{nearest, fits_grid}
use Rattle.to_grid.specs.Calls.{wrong_units}

-- ---- the lists

-- a path of 2 to 10,001 points
abbrev pub drawn_path_extent : List Float → Extent
drawn_path_extent path = record { width = 2; least = 2; most = 10001; size = length path }

-- lines: four numbers for each edge of the stationary polygon
abbrev pub lines_extent : List Float → List ℤ → Extent
lines_extent xs ls = record { width = 4; least = length xs / 2; most = length xs / 2; size = length ls }

-- ---- 2: of two polygons and of positions

abbrev pub wrong_floats : List Float → List Float → List Float → Told
wrong_floats xs ys path = first_of (wrong_number xs ∷ wrong_number ys ∷ wrong_infinite path ∷ [])

-- ---- 14: of what is off the grid

-- numbers on it
abbrev pub grid_of : ℕ → List Float → List ℤ
grid_of n xs = map (nearest n) xs

-- each corner of the disc is within the bounds at each point of the path, corner and point each put on the grid
abbrev pub disc_placed : ℕ → List Float → List Float → Bool
disc_placed n ys path = each (is_placed (grid_of n ys) (grid_of n path)) 0 (length path / 2)

-- each number, times units, is at most 1,000,000 in size, and the disc is placed
unfoldable pub all_on_grid : ℕ → List Float → List Float → List Float → Bool
all_on_grid n xs ys path =
    every (fits_grid n) xs && (every (fits_grid n) ys && (every (fits_grid n) path && disc_placed n ys path))

abbrev pub off_grid : ℕ → List Float → List Float → List Float → Told
off_grid n xs ys path = unless (all_on_grid n xs ys path) refused_grid 0

-- ---- the rows

-- 2, 3 and 14 of two polygons and a path
unfoldable pub drawn_numbers : List Float → List Float → List Float → ℕ → Told
drawn_numbers xs ys path n = first_of (wrong_floats xs ys path ∷ wrong_units n ∷ off_grid n xs ys path ∷ [])

-- two polygons, and a move from one position to another
unfoldable pub of_drawn_move : List Float → List Float → List Float → ℕ → Told
of_drawn_move xs ys path n = first_of (fault_of (polygon_extent xs ∷ polygon_extent ys ∷ []) ∷ drawn_numbers xs ys path n ∷ [])

-- and a path, which is a list
unfoldable pub of_drawn_path : List Float → List Float → List Float → ℕ → Told
of_drawn_path xs ys path n =
    first_of (fault_of (polygon_extent xs ∷ polygon_extent ys ∷ drawn_path_extent path ∷ []) ∷ drawn_numbers xs ys path n ∷ [])

-- 3: a way of putting aside that there is not
abbrev pub how_ok : ℕ → Bool
how_ok how = leb how 20

-- 2, 3 and 14 of a move and of lines for a disc put by `how`: the numbers of the lines are tested behind the floats
unfoldable pub reason_numbers : List Float → List Float → List Float → ℕ → ℕ → List ℤ → Told
reason_numbers xs ys path n how ls =
    first_of
    (wrong_floats xs ys path
    ∷ wrong_whole ls
    ∷ wrong_units n
    ∷ unless (how_ok how) refused_setting 0
    ∷ off_grid n xs ys path
    ∷ [])

unfoldable pub of_drawn_reason : List Float → List Float → List Float → ℕ → ℕ → List ℤ → Told
of_drawn_reason xs ys path n how ls =
    first_of (fault_of (polygon_extent xs ∷ polygon_extent ys ∷ lines_extent xs ls ∷ []) ∷ reason_numbers xs ys path n how ls ∷ [])
