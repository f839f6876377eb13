-- What the tests of the call tell: the code's order is that of the row, and what a row that passes is known to be. Assumes nothing.
use Prim.Native.Nat.{ℕ, ◌≤◌}
use mathlib.Core.Path.{◌≡◌, refl}
use mathlib.Core.Bool.{true}
use mathlib.Core.List.{List}
use lib.Dec.{leb}
use lib.Ieee.{Float}
use borrow.Author.Tests.{leb-true}
use Rattle.laws.proofs.Both.{both}
use Rattle.refusals.specs.Bounds.{coordinate, every, coordinates}
use Rattle.refusals.specs.Lists.{list_fault, points_extent}
use Rattle.refusals.specs.Refusals.{refused_setting, refused_grid, none, first}
use Rattle.refusals.specs.Screens.{wrong_number}
use Rattle.refusals.proofs.Every.{every_at, every_of}
use Rattle.refusals.proofs.Sized.{row_parts, holds}
use Rattle.to_grid.specs.Grid.{fits_grid}
use Rattle.to_grid.specs.Calls.{units_ok, wrong_units, wrong_grid, grid_numbers, of_grid}
use Rattle.to_grid.proofs.Sized.{fits_coordinate}

pub units_are : (units : ℕ) → units_ok units ≡ true → (1 ≤ units) × (units ≤ 1000000)
units_are units h =
    let p = both (leb 1 units) (leb units 1000000) h in
    (leb-true 1 units p.0, leb-true units 1000000 p.1)

module _ (xs : List Float) (units : ℕ) where
  -- what fits the grid is a coordinate
  pub all_coordinates : units_ok units ≡ true → every (fits_grid units) xs ≡ true → coordinates xs ≡ true
  all_coordinates u h =
      every_of coordinate xs (λ i l. fits_coordinate units _ (units_are units u).0 (every_at (fits_grid units) xs i h l))

  -- what is known of a list that passes
  pub passing : none ≡ of_grid xs units → (every (fits_grid units) xs ≡ true) × (1 ≤ units) × (units ≤ 1000000)
  unfolding of_grid grid_numbers
  passing h =
      let q = row_parts (list_fault (points_extent xs) 0) (grid_numbers xs units) (rw (← h)) in
      let r = row_parts (wrong_number xs) (first (wrong_units units) (wrong_grid units xs)) q.1 in
      let s = row_parts (wrong_units units) (wrong_grid units xs) r.1 in
      let u = units_are units (holds (units_ok units) refused_setting 0 refl s.0) in
      (holds (every (fits_grid units) xs) refused_grid 0 refl s.1, u.0, u.1)
