-- The disc at the points of a path, both put on the grid: what the loop over the points tests. Assumes nothing.
use Prim.Native.Nat.{ℕ, zero, suc, ◌+◌, ◌*◌}
use mathlib.Core.Path.{◌≡◌, refl, ap, ◌∙◌}
use mathlib.Core.Bool.{Bool}
use mathlib.Core.List.{List, [], ◌∷◌}
use lib.ListN.{length, take, get_or, length-map}
use lib.Seq.{take_at}
use lib.IntN.{ℤ, pos}
use lib.Ieee.{Float, nan}
use Rattle.ring.specs.Room.{laid}
use Rattle.whole_engine.specs.Rows.{all_in_bounds}
use Rattle.whole_moves.specs.Moved.{moved_by}
use Rattle.clear_path.specs.Rows.{is_placed}
use Rattle.to_grid.specs.Grid.{nearest}
use Rattle.drawn_rows.specs.Rows.{grid_of}

module _ (n : ℕ) where
  -- a list at the front of a room
  pub front : (xs : List Float) (d : List ℤ) {room : List ℤ} → room ≡ laid (grid_of n xs) d → take (length xs) room ≡ grid_of n xs
  front xs d e = ap (take (length xs)) e ∙ take_at (grid_of n xs) _ (length xs) (length-map xs (nearest n))

  -- a number of it, and beyond its end what stands for none
  pub grid_at : (xs : List Float) (j : ℕ) → get_or (grid_of n xs) j (pos 0) ≡ nearest n (get_or xs j nan)
  unfolding nearest
  grid_at [] j = refl
  grid_at (x ∷ xs) zero = refl
  grid_at (x ∷ xs) (suc j) = grid_at xs j

  -- the test of the point i, of a disc in a room and of two numbers on the grid
  pub placed_is : (ys path : List Float) (i : ℕ) (d : List ℤ) {room : List ℤ} {x y : ℤ} {t : Bool} → room ≡ laid (grid_of n ys) d
      → x ≡ nearest n (get_or path (2 * i) nan) → y ≡ nearest n (get_or path (2 * i + 1) nan)
      → t ≡ all_in_bounds (moved_by x y (take (length ys) room)) → t ≡ is_placed (grid_of n ys) (grid_of n path) i
  placed_is ys path i d e f g h =
      rw (grid_at path (2 * i), grid_at path (2 * i + 1), ← f, ← g, ← front ys d e) h
