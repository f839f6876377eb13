-- The checks of a file: refusal 10 with the place of the first fault. Definitions only.
use Rattle.std.specs.Prelude.{ℕ, zero, suc, ◌+◌, ◌*◌, Bool, ◌&&◌, List, [], ◌∷◌, length, get_or, take, drop, leb, eqb, Float}
use Rattle.std.specs.Float.{binary64}
use Rattle.std.specs.Float.Ieee.{of_bits, eq}
use Rattle.refusals.specs.Refusals.{refused_wkb, none, unless, first_of}
use Rattle.refusals.specs.Bounds.{coordinate}
use Rattle.refusals.specs.Rings.{within}
use Rattle.refusals.specs.Refusals.{Told}
use Rattle.wkb_layout.specs.Layout.{number_bytes, point_bytes, type_at, rings_at, points_at, head_bytes, polygon_type, points_least, points_most, read_as, order_in, code_in, bits_in, open_vertices}
use Rattle.wkb_layout.specs.declared.Order.{Order}

-- what must hold, or else the fault at a byte
abbrev pub wkb_fault : Bool → ℕ → Told
wkb_fault ok at = unless ok refused_wkb at

-- k coordinates in file order, the first of them at the byte `at`
unfoldable pub numbers_check : Order → ℕ → ℕ → List ℕ → Told
numbers_check o zero at f = none
numbers_check o (suc k) at f =
    first_of
    (wkb_fault (coordinate (of_bits binary64 (read_as o (take number_bytes f)))) at
    ∷ numbers_check o k (at + number_bytes) (drop number_bytes f)
    ∷ [])

-- the byte of the closing point, the last of the points
abbrev pub closing_at : List ℕ → ℕ
closing_at f = head_bytes + point_bytes * open_vertices f

abbrev pub number_in : List ℕ → ℕ → Float
number_in f at = of_bits binary64 (bits_in f at)

-- the closing point equals the first as numbers
unfoldable pub closes : List ℕ → Bool
closes f =
    eq (number_in f head_bytes) (number_in f (closing_at f)) && eq (number_in f (head_bytes + number_bytes)) (number_in f (closing_at f + number_bytes))

-- "length under 13, byte order, type, rings, points, length, coordinates, closing point"
unfoldable pub wkb_check : List ℕ → Told
wkb_check f =
    first_of
    (wkb_fault (leb head_bytes (length f)) 0
    ∷ wkb_fault (leb (get_or f 0 0) 1) 0
    ∷ wkb_fault (eqb (code_in f type_at) polygon_type) type_at
    ∷ wkb_fault (eqb (code_in f rings_at) 1) rings_at
    ∷ wkb_fault (within points_least points_most (code_in f points_at)) points_at
    ∷ wkb_fault (eqb (length f) (head_bytes + point_bytes * code_in f points_at)) 0
    ∷ numbers_check (order_in f) (2 * code_in f points_at) head_bytes (drop head_bytes f)
    ∷ wkb_fault (closes f) (closing_at f)
    ∷ [])
