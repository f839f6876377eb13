-- What the rows let pass. Assumes nothing.
use Prim.Native.Nat.{ℕ, ◌/◌, ◌≤◌}
use native.Mathlib.Omega.{arith}
use mathlib.Core.Path.{◌≡◌, refl}
use mathlib.Core.Bool.{true}
use mathlib.Core.List.{List, [], ◌∷◌}
use lib.ListN.{length}
use lib.IntN.{ℤ}
use lib.Ieee.{Float}
use borrow.Author.Tests.{leb-true}
use Rattle.laws.proofs.Both.{both}
use Rattle.ring.proofs.Each.{each_at}
use Rattle.refusals.specs.Refusals.{none, refused_number, refused_setting, refused_grid, unless, passed, first}
use Rattle.refusals.specs.Lists.{Extent, list_fault, fault_of, polygon_extent}
use Rattle.refusals.proofs.Sized.{Polygon, Fine, row_parts, holds, fine, is_polygon}
use Rattle.whole_engine.specs.Rows.{all_in_bounds, wrong_whole}
use Rattle.clear_path.specs.Rows.{is_placed}
use Rattle.to_grid.specs.Calls.{units_ok, wrong_units}
use Rattle.to_grid.proofs.Screened.{units_are}
use Rattle.drawn_rows.specs.Rows.{drawn_path_extent, lines_extent, wrong_floats, grid_of, all_on_grid, off_grid, drawn_numbers}
use Rattle.drawn_rows.specs.Rows.{of_drawn_move, of_drawn_path, how_ok, reason_numbers, of_drawn_reason}
use Rattle.drawn_rows.specs.Lent.{OnGrid, DrawnLent, LinesLent}

-- ---- the lists

module _ (xs ys : List Float) where
  two_fine : passed (fault_of (polygon_extent xs ∷ polygon_extent ys ∷ [])) ≡ true → Polygon xs × Polygon ys
  two_fine h =
      let p = row_parts (list_fault (polygon_extent xs) 0) (list_fault (polygon_extent ys) 1) h in
      (is_polygon xs (fine (polygon_extent xs) 0 p.0), is_polygon ys (fine (polygon_extent ys) 1 p.1))

  three_fine : (e : Extent) → passed (fault_of (polygon_extent xs ∷ polygon_extent ys ∷ e ∷ [])) ≡ true
      → Polygon xs × Polygon ys × Fine e
  three_fine e h =
      let rest = first (list_fault (polygon_extent ys) 1) (list_fault e 2) in
      let p = row_parts (list_fault (polygon_extent xs) 0) rest h in
      let q = row_parts (list_fault (polygon_extent ys) 1) (list_fault e 2) p.1 in
      (is_polygon xs (fine (polygon_extent xs) 0 p.0), is_polygon ys (fine (polygon_extent ys) 1 q.0), fine e 2 q.1)

  -- so the numbers may be tested
  pub two_short : none ≡ fault_of (polygon_extent xs ∷ polygon_extent ys ∷ []) → length ys ≤ 512
  two_short h = (two_fine (rw (← h))).1.most

  pub three_short : (e : Extent) → none ≡ fault_of (polygon_extent xs ∷ polygon_extent ys ∷ e ∷ []) → length ys ≤ 512
  three_short e h = (three_fine e (rw (← h))).1.most

-- ---- the numbers

module _ (xs ys path : List Float) (n : ℕ) where
  on_grid : passed (wrong_units n) ≡ true → passed (off_grid n xs ys path) ≡ true → OnGrid xs ys path n
  unfolding all_on_grid
  on_grid u g =
      let v = units_are n (holds (units_ok n) refused_setting 0 refl u) in
      let p = both _ _ (holds (all_on_grid n xs ys path) refused_grid 0 refl g) in
      let q = both _ _ p.1 in
      let r = both _ _ q.1 in
      record {
        units_least = v.0;
        units_most = v.1;
        ring_fits = p.0;
        disc_fits = q.0;
        path_fits = r.0;
        placed = λ i l. each_at (is_placed (grid_of n ys) (grid_of n path)) 0 (length path / 2) i r.1 (omega arith) (omega arith);
      }

  numbers_passed : passed (drawn_numbers xs ys path n) ≡ true → OnGrid xs ys path n
  unfolding drawn_numbers
  numbers_passed h =
      let rest = first (wrong_units n) (off_grid n xs ys path) in
      let p = row_parts (wrong_units n) (off_grid n xs ys path) (row_parts (wrong_floats xs ys path) rest h).1 in
      on_grid p.0 p.1

  drawn_lent : Polygon xs → Polygon ys → OnGrid xs ys path n → DrawnLent xs ys path n
  drawn_lent f g o =
      record {
        on_grid = o;
        ring_most = f.most;
        pairs = (length ys / 2, omega (arith, g.even));
        least = g.least;
        most = g.most;
      }

  -- ---- the rows

  pub move_passed : passed (of_drawn_move xs ys path n) ≡ true → DrawnLent xs ys path n
  unfolding of_drawn_move
  move_passed h =
      let p = row_parts (fault_of (polygon_extent xs ∷ polygon_extent ys ∷ [])) (drawn_numbers xs ys path n) h in
      let f = two_fine xs ys p.0 in
      drawn_lent f.0 f.1 (numbers_passed p.1)

  pub path_passed : passed (of_drawn_path xs ys path n) ≡ true
      → DrawnLent xs ys path n × (2 ≤ length path / 2) × (length path ≤ 20002)
  unfolding of_drawn_path
  path_passed h =
      let lists = fault_of (polygon_extent xs ∷ polygon_extent ys ∷ drawn_path_extent path ∷ []) in
      let p = row_parts lists (drawn_numbers xs ys path n) h in
      let f = three_fine xs ys (drawn_path_extent path) p.0 in (
        drawn_lent f.0 f.1 (numbers_passed p.1),
        f.2.enough,
        omega (arith, f.2.whole, f.2.within),
      )

  pub reason_passed : (how : ℕ) (ls : List ℤ) → passed (of_drawn_reason xs ys path n how ls) ≡ true
      → DrawnLent xs ys path n × LinesLent xs ls × (how ≤ 20)
  unfolding of_drawn_reason reason_numbers
  reason_passed how ls h =
      let lists = fault_of (polygon_extent xs ∷ polygon_extent ys ∷ lines_extent xs ls ∷ []) in
      let hows = unless (how_ok how) refused_setting 0 in
      let behind = first hows (off_grid n xs ys path) in
      let setting = first (wrong_units n) behind in
      let p = row_parts lists (reason_numbers xs ys path n how ls) h in
      let q = row_parts (wrong_floats xs ys path) (first (wrong_whole ls) setting) p.1 in
      let r = row_parts (wrong_whole ls) setting q.1 in
      let s = row_parts (wrong_units n) behind r.1 in
      let t = row_parts hows (off_grid n xs ys path) s.1 in
      let f = three_fine xs ys (lines_extent xs ls) p.0 in (
        drawn_lent f.0 f.1 (on_grid s.0 t.1),
        record {
          four_each = omega (arith, f.2.whole, f.2.enough, f.2.within);
          within = holds (all_in_bounds ls) refused_number 0 refl r.0;
        },
        leb-true how 20 (holds (how_ok how) refused_setting 0 refl t.0),
      )
