-- docs/SCOPE.md's starred pieces, in its order and under its words: what the written rules answer, and the values that it gives. Definitions only.
use Rattle.std.specs.Prelude.{◌^◌, false, List, [], ◌∷◌, ◌++◌, drop, replicate, Option, None, Some}
use Rattle.std.specs.Float.{nan}
use Rattle.plane.specs.Vector.{root}
use Rattle.refusals.specs.Answers.{answers}
use Rattle.projection.specs.Calls.{project_call, distance_call}
use Rattle.start_position.specs.Calls.{start_call}
use Rattle.contacts_call.specs.Calls.{find_call, find_which, find_points}
use Rattle.collision.specs.Calls.{collision_call}
use Rattle.pairs.specs.Pairs.{pair}
use Rattle.collision.specs.Nearest.{pair_no, ray_at}
use Rattle.simplify.specs.Simplify.{survivors}
use Rattle.simplify.specs.Calls.{simplify_call, simplify_room}
use Rattle.reading.specs.Reading.{least_reading}
use Rattle.reading.specs.Lent.{ring_of}
use Rattle.simple_polygon.specs.Calls.{is_simple_call}
use Rattle.signed_area.specs.Calls.{area2_call}
use Rattle.measured.specs.Piece.{Piece, ◌gives◌}
use Rattle.measured.specs.Lent.{ratio, real, negative, at, reals, S, Q, tolerance, start, there, beside, line, eight}

-- "Roots: 4 gives 2; 0.25 gives 0.5; -0.0 gives -0.0; 2^-1074 gives 2^-537."
unfoldable pub roots : List Piece
roots =
    root (real 4) gives real 2
    ∷ root (ratio 1 4) gives ratio 1 2
    ∷ root (negative 0) gives negative 0
    ∷ root (ratio 1 (2 ^ 1074)) gives ratio 1 (2 ^ 537)
    ∷ []

-- "Point (7,4) to segment (0,0)-(4,0): parameter 1, distance 5."
unfoldable pub foot : List Piece
foot =
    project_call (at 7 4) (at 0 0) (at 4 0) gives answers (record { parameter = real 1; foot = 1 })
    ∷ distance_call (at 7 4) (at 0 0) (at 4 0) gives answers (real 5)
    ∷ []

-- "S and Q start at (0,-2)."
unfoldable pub starting : List Piece
starting = start_call S Q gives answers start ∷ []

-- "There the contacts are, as (stationary, orbiting): vertex-edge (0,2), (0,3), (3,3); edge-vertex (0,2), (0,3); edge-edge (0,2) at (1,0)."
-- There are six, in rooms that just hold them. A contact's kind, 0, 1 or 2, stands before its two indices, and behind these its foot, of which the
-- piece does not speak; the sixth one's point comes after five others.
unfoldable pub contacts : List Piece
contacts =
    find_call S there tolerance 24 12 gives answers 6
    ∷ find_which S there tolerance (replicate 24 9) (replicate 12 nan)
    gives (0 ∷ 0 ∷ 2 ∷ 2 ∷ 0 ∷ 0 ∷ 3 ∷ 0 ∷ 0 ∷ 3 ∷ 3 ∷ 1 ∷ 1 ∷ 0 ∷ 2 ∷ 1 ∷ 1 ∷ 0 ∷ 3 ∷ 0 ∷ 2 ∷ 0 ∷ 2 ∷ 2 ∷ [])
    ∷ drop 10 (find_points S there tolerance (replicate 24 9) (replicate 12 nan)) gives reals (1 ∷ 0 ∷ [])
    ∷ []

-- "Q moved by (-5,1), move (10,0): vertex-edge, stationary 3, orbiting 1, distance 3; orbiting 2 ties and is later. Move (3,0): nothing. Move (0,0): nothing."
-- The pair that ties meets at the same distance; in the scan it is number 11, and the hit is number 7.
unfoldable pub moves : List Piece
moves =
    collision_call S beside (at 10 0) tolerance
    gives answers (Some (record { distance = real 3; kind = 0; stationary = 3; orbiting = 1 }))
    ∷ ray_at S beside (at 10 0) tolerance (pair 0 3 2) gives Some (real 3)
    ∷ pair_no S beside 7 gives pair 0 3 1
    ∷ pair_no S beside 11 gives pair 0 3 2
    ∷ collision_call S beside (at 3 0) tolerance gives answers None
    ∷ collision_call S beside (at 0 0) tolerance gives answers None
    ∷ []

-- "Simplify (0,0),(1,0),(2,0): two survive, so all three stay."
unfoldable pub path : List Piece
path =
    survivors line tolerance 3 gives reals (0 ∷ 0 ∷ 2 ∷ 0 ∷ [])
    ∷ simplify_call line tolerance 6 gives answers 3
    ∷ simplify_room line tolerance (replicate 6 nan) gives line
    ∷ []

-- "Ring (0,0),(1,0),(0,0),(0,1): least reading (0,0),(0,1),(0,0),(1,0)."
unfoldable pub ring : List Piece
ring =
    least_reading (ring_of (reals (0 ∷ 0 ∷ 1 ∷ 0 ∷ 0 ∷ 0 ∷ 0 ∷ 1 ∷ []))) gives ring_of (reals (0 ∷ 0 ∷ 0 ∷ 1 ∷ 0 ∷ 0 ∷ 1 ∷ 0 ∷ []))
    ∷ []

-- "(0,0),(2,2),(2,0),(0,2) is not simple; twice its area is 0."
unfoldable pub crossed : List Piece
crossed = is_simple_call eight gives answers false ∷ area2_call eight gives answers (real 0) ∷ []

-- all of them
unfoldable pub pieces : List Piece
pieces = roots ++ (foot ++ (starting ++ (contacts ++ (moves ++ (path ++ (ring ++ crossed))))))
