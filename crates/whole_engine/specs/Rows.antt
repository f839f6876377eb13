-- The refusals of whole coordinates: 1 and 9 of a ring, as elsewhere, and then 2 for a coordinate that is out of bounds. Definitions only.
use Rattle.std.specs.Prelude.{Bool, true, ◌&&◌, List, [], ◌∷◌, length, ℤ}
use Rattle.refusals.specs.Refusals.{refused_number, unless, first_of}
use Rattle.refusals.specs.Rings.{vertices_most}
use Rattle.refusals.specs.Lists.{Extent, list_fault}
use Rattle.refusals.specs.Refusals.{Told}
use Rattle.shifted.specs.Shifted.{in_bounds}

-- each coordinate of a list is within a million
unfoldable pub all_in_bounds : List ℤ → Bool
all_in_bounds [] = true
all_in_bounds (z ∷ zs) = in_bounds z && all_in_bounds zs

abbrev pub wrong_whole : List ℤ → Told
wrong_whole zs = unless (all_in_bounds zs) refused_number 0

-- a ring of 0 to 256 vertices
abbrev pub whole_extent : List ℤ → Extent
whole_extent zs = record { width = 2; least = 0; most = vertices_most; size = length zs }

unfoldable pub of_whole_ring : List ℤ → Told
of_whole_ring zs = first_of (list_fault (whole_extent zs) 0 ∷ wrong_whole zs ∷ [])
