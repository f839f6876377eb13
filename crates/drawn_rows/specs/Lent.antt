-- What the tests leave of a drawing that passes. Definitions only.
use Rattle.std.specs.Prelude.{ℕ, ◌*◌, ◌/◌, ◌≤◌, ◌<◌, ◌≡◌, true, List, length, ℤ, Float}
use Rattle.refusals.specs.Bounds.{every}
use Rattle.whole_engine.specs.Rows.{all_in_bounds}
use Rattle.clear_path.specs.Rows.{is_placed}
use Rattle.to_grid.specs.Grid.{fits_grid}
use Rattle.drawn_rows.specs.Rows.{grid_of}

-- units within their bounds, and two polygons and a path that fit the grid, the disc at each of its points
pub record OnGrid (xs ys path : List Float) (n : ℕ) : Type 0 where
  pub units_least : 1 ≤ n
  pub units_most : n ≤ 1000000
  pub ring_fits : every (fits_grid n) xs ≡ true
  pub disc_fits : every (fits_grid n) ys ≡ true
  pub path_fits : every (fits_grid n) path ≡ true
  pub placed : (i : ℕ) → i < length path / 2 → is_placed (grid_of n ys) (grid_of n path) i ≡ true

-- a stationary polygon of at most 256 corners, and a disc of 3 to 256, no half of one, besides
pub record DrawnLent (xs ys path : List Float) (n : ℕ) : Type 0 where
  pub on_grid : OnGrid xs ys path n
  pub ring_most : length xs ≤ 512
  pub pairs : (k : ℕ) × (length ys ≡ 2 * k)
  pub least : 6 ≤ length ys
  pub most : length ys ≤ 512

-- and four numbers for each edge of the stationary one
pub record LinesLent (xs : List Float) (ls : List ℤ) : Type 0 where
  pub four_each : length ls ≡ 4 * (length xs / 2)
  pub within : all_in_bounds ls ≡ true
