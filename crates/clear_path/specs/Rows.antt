-- The refusals of a whole path: 1, 8 and 9 of the two polygons and of the path, then 2, of a corner at a point of the path too; of
-- the path's own numbers no more is asked. Definitions only.
use Rattle.std.specs.Prelude.{ℕ, ◌+◌, ◌*◌, ◌/◌, Bool, List, [], ◌∷◌, length, get_or, ℤ, pos}
use Rattle.ring.specs.Each.{each}
use Rattle.refusals.specs.Refusals.{refused_number, unless, first_of}
use Rattle.refusals.specs.Lists.{Extent, fault_of}
use Rattle.refusals.specs.Refusals.{Told}
use Rattle.whole_engine.specs.Rows.{all_in_bounds, wrong_whole}
use Rattle.whole_moves.specs.Moved.{moved_by}
use Rattle.clear_calls.specs.Rows.{whole_polygon_extent}

-- a path of 3 to 10,001 points
abbrev pub whole_path_extent : List ℤ → Extent
whole_path_extent path = record { width = 2; least = 3; most = 10001; size = length path }

-- a list x, y, x, y .. moved to the point i of a path
abbrev pub placed_at : List ℤ → List ℤ → ℕ → List ℤ
placed_at orb path i = moved_by (get_or path (2 * i) (pos 0)) (get_or path (2 * i + 1) (pos 0)) orb

-- each corner is within the bounds there
abbrev pub is_placed : List ℤ → List ℤ → ℕ → Bool
is_placed orb path i = all_in_bounds (placed_at orb path i)

-- 2: one is out of bounds at a point of the path
abbrev pub wrong_place : List ℤ → List ℤ → Told
wrong_place orb path = unless (each (is_placed orb path) 0 (length path / 2)) refused_number 0

unfoldable pub of_whole_path : List ℤ → List ℤ → List ℤ → Told
of_whole_path st orb path =
    first_of
    (fault_of (whole_polygon_extent st ∷ whole_polygon_extent orb ∷ whole_path_extent path ∷ [])
    ∷ wrong_whole st
    ∷ wrong_whole orb
    ∷ wrong_place orb path
    ∷ [])
