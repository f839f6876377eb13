-- The tests of what the call is lent: the faults of the two polygons and of the path, then 2, the path's numbers finite, then 3.
-- Definitions only.
use Rattle.std.specs.Prelude.{List, [], ◌∷◌, length, Float}
use Rattle.refusals.specs.Refusals.{first_of}
use Rattle.refusals.specs.Screens.{wrong_number, wrong_infinite, wrong_settings}
use Rattle.refusals.specs.Lists.{Extent, fault_of, polygon_extent}
use Rattle.refusals.specs.Refusals.{Told}
use Rattle.refusals.specs.declared.Settings.{Settings}

-- a path of 3 to 10,001 points
abbrev pub path_extent : List Float → Extent
path_extent r = record { width = 2; least = 3; most = 10001; size = length r }

unfoldable pub path_lengths : List Float → List Float → List Float → Told
path_lengths st orb path = fault_of (polygon_extent st ∷ polygon_extent orb ∷ path_extent path ∷ [])

unfoldable pub path_numbers : List Float → List Float → Settings → List Float → Told
path_numbers st orb s path = first_of (wrong_number st ∷ wrong_number orb ∷ wrong_infinite path ∷ wrong_settings s ∷ [])

unfoldable pub of_path : List Float → List Float → Settings → List Float → Told
of_path st orb s path = first_of (path_lengths st orb path ∷ path_numbers st orb s path ∷ [])
