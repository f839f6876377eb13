-- Whole coordinates x, y, x, y .. moved by a whole move, and numbers that were moved up by a million brought down again.
-- Definitions only.
use Rattle.std.specs.Prelude.{ℕ, List, [], ◌∷◌, map, ℤ, pos, negsuc, ◌+ℤ◌}
use Rattle.shifted.specs.Shifted.{up_of}

-- each coordinate and that of the move, x and y in turn
unfoldable pub moved_by : ℤ → ℤ → List ℤ → List ℤ
moved_by dx dy [] = []
moved_by dx dy (z ∷ zs) = (z +ℤ dx) ∷ moved_by dy dx zs

-- the same, moved up
abbrev pub moved_up : List ℤ → ℤ → ℤ → List ℕ
moved_up zs dx dy = map up_of (moved_by dx dy zs)

-- a number less a million
abbrev pub down_of : ℕ → ℤ
down_of u = pos u +ℤ negsuc 999999
