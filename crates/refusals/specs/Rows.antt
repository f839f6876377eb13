-- The tests of what calls are lent, in docs/SCOPE.md's order: the faults of the lists, 2, 3, 4, stationary before orbiting in each. A call that is lent the
-- same takes the same row. Definitions only.
use Rattle.std.specs.Prelude.{ℕ, List, [], ◌∷◌, map, length, Float}
use Rattle.plane.specs.declared.Point.{Point}
use Rattle.refusals.specs.Refusals.{first_of}
use Rattle.refusals.specs.Screens.{wrong_sum, wrong_parts, wrong_number, wrong_infinite, wrong_position, wrong_point, wrong_tolerance, wrong_settings, wrong_work, wrong_result, wrong_fit}
use Rattle.refusals.specs.Lists.{list_fault, fault_of, ring_extent, polygon_extent, points_extent, vectors_extent, rings_extent, count_extent}
use Rattle.refusals.specs.Refusals.{Told}
use Rattle.refusals.specs.declared.Settings.{Settings}

-- ---- single points

unfoldable pub of_points3 : Point → Point → Point → Told
of_points3 a b c = first_of (wrong_point a ∷ wrong_point b ∷ wrong_point c ∷ [])

unfoldable pub of_points4 : Point → Point → Point → Point → Told
of_points4 a b c d = first_of (wrong_point a ∷ wrong_point b ∷ wrong_point c ∷ wrong_point d ∷ [])

-- a point, a segment and a tolerance
unfoldable pub of_near : Point → Point → Point → Float → Told
of_near p a b tol = first_of (wrong_point p ∷ wrong_point a ∷ wrong_point b ∷ wrong_tolerance tol ∷ [])

-- ---- lists: the faults of all come before the numbers of any

unfoldable pub of_ring : List Float → Told
of_ring r = first_of (fault_of (ring_extent r ∷ []) ∷ wrong_number r ∷ [])

unfoldable pub of_polygon : List Float → Told
of_polygon r = first_of (fault_of (polygon_extent r ∷ []) ∷ wrong_number r ∷ [])

unfoldable pub of_two_rings : List Float → List Float → Told
of_two_rings a b = first_of (fault_of (ring_extent a ∷ ring_extent b ∷ []) ∷ wrong_number a ∷ wrong_number b ∷ [])

unfoldable pub of_two_polygons : List Float → List Float → Told
of_two_polygons a b = first_of (fault_of (polygon_extent a ∷ polygon_extent b ∷ []) ∷ wrong_number a ∷ wrong_number b ∷ [])

-- a list to simplify and a tolerance
unfoldable pub of_list : List Float → Float → Told
of_list r tol = first_of (fault_of (points_extent r ∷ []) ∷ wrong_infinite r ∷ wrong_tolerance tol ∷ [])

-- vectors, of which all numbers are taken
unfoldable pub of_vectors : List Float → Told
of_vectors vs = fault_of (vectors_extent vs ∷ [])

-- rings, their vertex counts and their parts, as a book's writer is lent them: the number of rings, in the place of that number; ring by ring
-- its vertices; the sum; the number of parts; the coordinates
unfoldable pub of_rings : List Float → List ℕ → List ℕ → Told
of_rings xs ns ps =
    first_of
    (list_fault (rings_extent ns) (length ns)
    ∷ fault_of (map count_extent ns)
    ∷ wrong_sum xs ns
    ∷ wrong_parts ns ps
    ∷ wrong_number xs
    ∷ [])

-- ---- two polygons and what is lent with them

-- a tolerance
unfoldable pub of_touching : List Float → List Float → Float → Told
of_touching st orb tol = first_of (of_two_polygons st orb ∷ wrong_tolerance tol ∷ [])

-- a move or a position, and a tolerance
unfoldable pub of_moving : List Float → List Float → Point → Float → Told
of_moving st orb p tol = first_of (of_two_polygons st orb ∷ wrong_position p ∷ wrong_tolerance tol ∷ [])

-- a reference, visited positions and a tolerance: the faults of the lists, then the rest
unfoldable pub fit_lengths : List Float → List Float → List Float → Told
fit_lengths st orb visited = fault_of (polygon_extent st ∷ polygon_extent orb ∷ points_extent visited ∷ [])

unfoldable pub fit_numbers : List Float → List Float → Point → List Float → Float → Told
fit_numbers st orb from visited tol =
    first_of (wrong_number st ∷ wrong_number orb ∷ wrong_position from ∷ wrong_infinite visited ∷ wrong_tolerance tol ∷ [])

unfoldable pub of_fit : List Float → List Float → Point → List Float → Float → Told
of_fit st orb from visited tol = first_of (fit_lengths st orb visited ∷ fit_numbers st orb from visited tol ∷ [])

-- the settings, a work room and a result room
unfoldable pub of_trace : List Float → List Float → Settings → ℕ → ℕ → Told
of_trace st orb s work result =
    first_of (of_two_polygons st orb ∷ wrong_settings s ∷ wrong_work work ∷ wrong_result work result ∷ [])

-- ---- so many numbers for each of two rooms

unfoldable pub of_rooms : ℕ → ℕ → ℕ → ℕ → Told
of_rooms needed size needed2 size2 = first_of (wrong_fit needed size ∷ wrong_fit needed2 size2 ∷ [])
