-- The refusals of the calls on whole moves: 1, 8 and 9 of the lists, then 2, of a corner at the end of the move too.
-- Definitions only.
use Rattle.std.specs.Prelude.{◌/◌, List, [], ◌∷◌, length, ℤ}
use Rattle.refusals.specs.Refusals.{refused_number, unless, first_of}
use Rattle.refusals.specs.Rings.{vertices_least, vertices_most}
use Rattle.refusals.specs.Lists.{Extent, fault_of}
use Rattle.refusals.specs.Refusals.{Told}
use Rattle.whole_engine.specs.Rows.{all_in_bounds, wrong_whole}
use Rattle.whole_moves.specs.Moved.{moved_by}

-- a polygon of 3 to 256 corners
abbrev pub whole_polygon_extent : List ℤ → Extent
whole_polygon_extent zs = record { width = 2; least = vertices_least; most = vertices_most; size = length zs }

-- a reason: four numbers for each edge of the stationary polygon
abbrev pub reason_extent : List ℤ → List ℤ → Extent
reason_extent st zs = record { width = 4; least = length st / 2; most = length st / 2; size = length zs }

-- 2: a corner is out of bounds at the end of the move
abbrev pub wrong_end : List ℤ → ℤ → ℤ → Told
wrong_end orb dx dy = unless (all_in_bounds (moved_by dx dy orb)) refused_number 0

-- two polygons and a move
unfoldable pub of_whole_move : List ℤ → List ℤ → ℤ → ℤ → Told
of_whole_move st orb dx dy =
    first_of (fault_of (whole_polygon_extent st ∷ whole_polygon_extent orb ∷ []) ∷ wrong_whole st ∷ wrong_whole orb ∷ wrong_end orb dx dy ∷ [])

-- and a reason
unfoldable pub of_reason : List ℤ → List ℤ → ℤ → ℤ → List ℤ → Told
of_reason st orb dx dy ls =
    first_of
    (fault_of (whole_polygon_extent st ∷ whole_polygon_extent orb ∷ reason_extent st ls ∷ [])
    ∷ wrong_whole st
    ∷ wrong_whole orb
    ∷ wrong_whole ls
    ∷ wrong_end orb dx dy
    ∷ [])
