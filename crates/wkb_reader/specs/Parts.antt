-- Parts of the checks of a file, as the reader makes them. Definitions only.
use Rattle.std.specs.Prelude.{ℕ, ◌+◌, ◌*◌, List, [], ◌∷◌, length, get_or, leb, eqb}
use Rattle.refusals.specs.Refusals.{first_of}
use Rattle.refusals.specs.Rings.{within}
use Rattle.refusals.specs.Refusals.{Told}
use Rattle.wkb_layout.specs.Layout.{point_bytes, type_at, rings_at, points_at, head_bytes, polygon_type, points_least, points_most, code_in}
use Rattle.wkb_layout.specs.Faults.{wkb_fault}

-- the length and the fields, up to the coordinates
unfoldable pub head_check : List ℕ → Told
head_check f =
    first_of
    (wkb_fault (leb head_bytes (length f)) 0
    ∷ wkb_fault (leb (get_or f 0 0) 1) 0
    ∷ wkb_fault (eqb (code_in f type_at) polygon_type) type_at
    ∷ wkb_fault (eqb (code_in f rings_at) 1) rings_at
    ∷ wkb_fault (within points_least points_most (code_in f points_at)) points_at
    ∷ wkb_fault (eqb (length f) (head_bytes + point_bytes * code_in f points_at)) 0
    ∷ [])
