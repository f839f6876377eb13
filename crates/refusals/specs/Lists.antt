-- The first fault of a row of lists: 1 for a length that fits no whole number of entries, 8 for too few entries, 9 for too many, each with
-- the list's place in the row; of one list all three come before the next list. Definitions only.
use Rattle.std.specs.Prelude.{ℕ, suc, ◌%◌, ◌/◌, List, [], ◌∷◌, length, leb, eqb, Float}
use Rattle.refusals.specs.Refusals.{refused_length, refused_few, refused_many, unless, first_of}
use Rattle.refusals.specs.Rings.{vertices_least, vertices_most, rings_least, rings_most}
use Rattle.refusals.specs.Refusals.{Told}

-- a lent list: how many numbers an entry has, how few and how many entries there may be, and how many numbers there are
pub record Extent : Type 0 where
  pub width : ℕ
  pub least : ℕ
  pub most : ℕ
  pub size : ℕ

-- a list in its place
abbrev pub list_fault : Extent → ℕ → Told
list_fault e at =
    let entries = e.size / e.width in
    first_of
    (unless (eqb (e.size % e.width) 0) refused_length at
    ∷ unless (leb e.least entries) refused_few at
    ∷ unless (leb entries e.most) refused_many at
    ∷ [])

-- lists one after the other, the first of them in this place
abbrev pub faults_from : ℕ → List Extent → List Told
faults_from at [] = []
faults_from at (e ∷ es) = list_fault e at ∷ faults_from (suc at) es

-- a row of lists
abbrev pub fault_of : List Extent → Told
fault_of es = first_of (faults_from 0 es)

-- ---- what calls are lent

-- a ring of 0 to 256 vertices
abbrev pub ring_extent : List Float → Extent
ring_extent r = record { width = 2; least = 0; most = vertices_most; size = length r }

-- a polygon of 3 to 256
abbrev pub polygon_extent : List Float → Extent
polygon_extent r = record { width = 2; least = vertices_least; most = vertices_most; size = length r }

-- a list of 0 to 10,001 points
abbrev pub points_extent : List Float → Extent
points_extent r = record { width = 2; least = 0; most = 10001; size = length r }

-- vectors of three numbers, as many as there are
abbrev pub vectors_extent : List Float → Extent
vectors_extent vs = record { width = 3; least = 0; most = length vs; size = length vs }

-- the rings of a book, and one of them, by its vertex count
abbrev pub rings_extent : List ℕ → Extent
rings_extent ns = record { width = 1; least = rings_least; most = rings_most; size = length ns }

abbrev pub count_extent : ℕ → Extent
count_extent n = record { width = 1; least = vertices_least; most = vertices_most; size = n }
