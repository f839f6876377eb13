-- The rings that a book's writer is lent: their coordinates in one list, a list of their vertex counts, and one of their parts. Definitions only.
use Rattle.std.specs.Prelude.{ℕ, ◌+◌, ◌*◌, Bool, true, ◌&&◌, List, [], ◌∷◌, length, leb, eqb, Float}

abbrev pub vertices_least : ℕ
vertices_least = 3

abbrev pub vertices_most : ℕ
vertices_most = 256

abbrev pub rings_least : ℕ
rings_least = 1

abbrev pub rings_most : ℕ
rings_most = 8

-- between the two, both included
abbrev pub within : ℕ → ℕ → ℕ → Bool
within low high n = leb low n && leb n high

-- the sum of vertex counts
unfoldable pub total : List ℕ → ℕ
total [] = 0
total (n ∷ ns) = n + total ns

-- each ring has 3 to 256 vertices
unfoldable pub sized_all : List ℕ → Bool
sized_all [] = true
sized_all (n ∷ ns) = within vertices_least vertices_most n && sized_all ns

-- the list is as long as the counts add up to
abbrev pub sum_ok : List Float → List ℕ → Bool
sum_ok xs ns = eqb (length xs) (2 * total ns)
