-- The refusals of a ring to mend: 1, 8 for no vertex at all, 9, then 2; of what is left of it 11; of the three rooms 5. Definitions only.
use Rattle.std.specs.Prelude.{ℕ, ◌*◌, List, [], ◌∷◌, length, leb, Float}
use Rattle.refusals.specs.Refusals.{refused_remaining, unless, first_of}
use Rattle.refusals.specs.Rings.{vertices_least, vertices_most}
use Rattle.refusals.specs.Lists.{Extent, fault_of}
use Rattle.refusals.specs.Screens.{wrong_number, wrong_fit}
use Rattle.refusals.specs.Rows.{of_rooms}
use Rattle.refusals.specs.Refusals.{Told}

-- a ring of 1 to 256 vertices
abbrev pub mendable_extent : List Float → Extent
mendable_extent r = record { width = 2; least = 1; most = vertices_most; size = length r }

unfoldable pub of_mendable : List Float → Told
of_mendable r = first_of (fault_of (mendable_extent r ∷ []) ∷ wrong_number r ∷ [])

-- 11: fewer than three vertices remain
abbrev pub wrong_remaining : ℕ → Told
wrong_remaining remaining = unless (leb vertices_least remaining) refused_remaining 0

-- so many vertices remain and so many are dropped, two numbers each, for rooms of so many numbers: of the ring, of indices and whys, of points
unfoldable pub of_mending : ℕ → ℕ → ℕ → ℕ → ℕ → Told
of_mending remaining gone room dropped points =
    first_of (wrong_remaining remaining ∷ wrong_fit (2 * remaining) room ∷ of_rooms (2 * gone) dropped (2 * gone) points ∷ [])
