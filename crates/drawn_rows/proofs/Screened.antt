-- What the tests of the numbers tell: the code's order is that of the rows. Assumes nothing.
use Prim.Native.Nat.{ℕ}
use mathlib.Core.Path.{◌≡◌, refl}
use mathlib.Core.Bool.{true, false}
use mathlib.Core.List.{List}
use lib.Ieee.{Float, nan, inf, fin}
use Rattle.laws.proofs.Both.{both}
use Rattle.refusals.specs.Bounds.{finite, every, all_finite}
use Rattle.refusals.specs.Refusals.{none}
use Rattle.refusals.proofs.Every.{every_at, every_of}
use Rattle.to_grid.specs.Grid.{fits_grid}
use Rattle.to_grid.specs.Calls.{units_ok}
use Rattle.to_grid.proofs.Sized.{fits_finite}
use Rattle.to_grid.proofs.Screened.{all_coordinates}
use Rattle.drawn_rows.specs.Rows.{disc_placed, all_on_grid, drawn_numbers}

-- ---- what fits the grid is finite

number_finite : (n : ℕ) (x : Float) → fits_grid n x ≡ true → finite x ≡ true
unfolding finite
number_finite n nan h = fits_finite n nan h
number_finite n (inf s) h = fits_finite n (inf s) h
number_finite n (fin s m e) h = refl

all_finite_lem : (n : ℕ) (xs : List Float) → every (fits_grid n) xs ≡ true → all_finite xs ≡ true
all_finite_lem n xs h = every_of finite xs (λ i l. number_finite n _ (every_at (fits_grid n) xs i h l))

module _ (xs ys path : List Float) (n : ℕ) where
  -- ---- 14, list by list

  pub ring_off : every (fits_grid n) xs ≡ false → false ≡ all_on_grid n xs ys path
  unfolding all_on_grid
  ring_off h = rw h

  pub disc_off : every (fits_grid n) xs ≡ true → every (fits_grid n) ys ≡ false → false ≡ all_on_grid n xs ys path
  unfolding all_on_grid
  disc_off f h = rw (f, h)

  module _ (f : every (fits_grid n) xs ≡ true) (g : every (fits_grid n) ys ≡ true) where
    pub path_off : every (fits_grid n) path ≡ false → false ≡ all_on_grid n xs ys path
    unfolding all_on_grid
    path_off h = rw (f, g, h)

    pub lists_on : every (fits_grid n) path ≡ true → disc_placed n ys path ≡ all_on_grid n xs ys path
    unfolding all_on_grid
    lists_on h = rw (f, g, h)

  -- ---- 2, 3 and 14

  pub all_fit : units_ok n ≡ true → all_on_grid n xs ys path ≡ true → none ≡ drawn_numbers xs ys path n
  unfolding drawn_numbers all_on_grid
  all_fit u h =
      let p = both _ _ h in
      let q = both _ _ p.1 in
      let r = both _ _ q.1 in
      rw (all_coordinates xs n u p.0, all_coordinates ys n u q.0, all_finite_lem n path r.0, u, h)
