-- A polygon of one ring in well-known binary: its bytes in either byte order, and what a file holds if it is one. Definitions only.
use Rattle.std.specs.Prelude.{ℕ, zero, suc, ◌-◌, ◌*◌, ◌/◌, cond, List, [], ◌∷◌, ◌++◌, reverse, length, get_or, take, drop, eqb}
use Rattle.number_bytes.specs.Bytes.{bytes_of, number_of}
use Rattle.wkb_layout.specs.declared.Order.{Order}
use Rattle.wkb_layout.specs.declared.Order.TheVariants.{Big, Little}

-- ---- sizes, in bytes, and codes

-- a field of four bytes, and a coordinate
abbrev pub code_bytes : ℕ
code_bytes = 4

abbrev pub number_bytes : ℕ
number_bytes = 8

abbrev pub point_bytes : ℕ
point_bytes = 2 * number_bytes

-- where the fields stand: the byte order is the first byte
abbrev pub type_at : ℕ
type_at = 1

abbrev pub rings_at : ℕ
rings_at = 5

abbrev pub points_at : ℕ
points_at = 9

-- and the points after them
abbrev pub head_bytes : ℕ
head_bytes = 13

abbrev pub polygon_type : ℕ
polygon_type = 3

-- a ring of 3 to 256 vertices, and its closing point
abbrev pub points_least : ℕ
points_least = 4

abbrev pub points_most : ℕ
points_most = 257

-- ---- numbers in a byte order

abbrev pub code_of : Order → ℕ
code_of Big = 0
code_of Little = 1

-- bytes that begin with the lowest, in a byte order; and back
abbrev pub ordered : Order → List ℕ → List ℕ
ordered Big l = reverse l
ordered Little l = l

-- a number as k bytes
unfoldable pub written_as : Order → ℕ → ℕ → List ℕ
written_as o k n = ordered o (bytes_of k n)

-- the number that bytes stand for
unfoldable pub read_as : Order → List ℕ → ℕ
read_as o l = number_of (ordered o l)

-- ---- the layout, of coordinates by their bit patterns, those of the closing point last

unfoldable pub numbers_as : Order → List ℕ → List ℕ
numbers_as o [] = []
numbers_as o (c ∷ cs) = written_as o number_bytes c ++ numbers_as o cs

-- the byte order, the type, one ring, and how many points it has
abbrev pub head_of : Order → ℕ → List ℕ
head_of o points = code_of o ∷ (written_as o code_bytes polygon_type ++ (written_as o code_bytes 1 ++ written_as o code_bytes points))

unfoldable pub wkb_of : Order → List ℕ → List ℕ
wkb_of o cs = head_of o (length cs / 2) ++ numbers_as o cs

-- ---- what a file holds

-- the byte order that its first byte says: 0 is big-endian
abbrev pub order_in : List ℕ → Order
order_in f = cond (eqb (get_or f 0 0) 0) Big Little

-- the field and the coordinate at a byte
unfoldable pub code_in : List ℕ → ℕ → ℕ
code_in f at = read_as (order_in f) (take code_bytes (drop at f))

unfoldable pub bits_in : List ℕ → ℕ → ℕ
bits_in f at = read_as (order_in f) (take number_bytes (drop at f))

-- k coordinates from a list's front
unfoldable pub numbers_in : Order → ℕ → List ℕ → List ℕ
numbers_in o zero f = []
numbers_in o (suc k) f = read_as o (take number_bytes f) ∷ numbers_in o k (drop number_bytes f)

-- how many vertices the ring has without its closing point, and their coordinates
abbrev pub open_vertices : List ℕ → ℕ
open_vertices f = code_in f points_at - 1

unfoldable pub open_numbers : List ℕ → List ℕ
open_numbers f = numbers_in (order_in f) (2 * open_vertices f) (drop head_bytes f)
