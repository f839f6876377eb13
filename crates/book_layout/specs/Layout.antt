-- The outline book: its bytes, which lists of rings it holds, and what a file holds if it is one. Definitions only.
use Rattle.std.specs.Prelude.{ℕ, zero, suc, ◌+◌, ◌-◌, ◌*◌, ◌/◌, ◌^◌, ◌≤◌, ◌<◌, ◌≡◌, Bool, true, ◌&&◌, List, [], ◌∷◌, ◌++◌, map, length, get_or, take, drop, eqb}
use Rattle.std.specs.Float.{binary64}
use Rattle.std.specs.Float.Ieee.{of_bits}
use Rattle.number_bytes.specs.Bytes.{bytes_of, number_of, Each}
use Rattle.refusals.specs.Bounds.{coordinate}
use Rattle.refusals.specs.Rings.{vertices_least, vertices_most, rings_most}
use Rattle.reading.specs.Lent.{kept}
use Rattle.reading.specs.Reading.{ReadsUpTo, Vertex, flat, vertices, least_reading}

-- ---- sizes, in bytes

abbrev pub field_bytes : ℕ
field_bytes = 4

abbrev pub coordinate_bytes : ℕ
coordinate_bytes = 8

abbrev pub vertex_bytes : ℕ
vertex_bytes = 2 * coordinate_bytes

-- a ring's offset, its vertices and its part
abbrev pub entry_bytes : ℕ
entry_bytes = 3 * field_bytes

-- the ring count and the offset of the first entry
abbrev pub tail_bytes : ℕ
tail_bytes = 2 * field_bytes

-- the coordinates of all rings: 4,096
abbrev pub numbers_most : ℕ
numbers_most = 2 * rings_most * vertices_most

-- the shortest book and the longest: 68 and 32,872 bytes
abbrev pub book_least : ℕ
book_least = vertices_least * vertex_bytes + entry_bytes + tail_bytes

abbrev pub book_most : ℕ
book_most = rings_most * (vertices_most * vertex_bytes + entry_bytes) + tail_bytes

-- ---- the layout

-- coordinates, one after the other
unfoldable pub coord_bytes : List ℕ → List ℕ
coord_bytes [] = []
coord_bytes (c ∷ l) = bytes_of coordinate_bytes c ++ coord_bytes l

-- the rings, with no gaps
unfoldable pub body : List (List Vertex) → List ℕ
body [] = []
body (r ∷ rs) = coord_bytes (flat r) ++ body rs

-- per ring the offset of its first byte, its vertices and its part: rings of so many vertices and of these parts, the first of them at the
-- offset `at`
unfoldable pub entries : ℕ → List ℕ → List ℕ → List ℕ
entries at [] ps = []
entries at (n ∷ ns) [] = []
entries at (n ∷ ns) (p ∷ ps) =
    bytes_of field_bytes at ++ (bytes_of field_bytes n ++ (bytes_of field_bytes p ++ entries (at + vertex_bytes * n) ns ps))

-- last, the ring count and the offset of the first entry
unfoldable pub layout : List (List Vertex) → List ℕ → List ℕ
layout rs ps = body rs ++ (entries 0 (map length rs) ps ++ (bytes_of field_bytes (length rs) ++ bytes_of field_bytes (length (body rs))))

-- a book keeps of each ring its least reading, and the parts as they are
unfoldable pub book_of : List (List Vertex) → List ℕ → List ℕ
book_of rs ps = layout (map least_reading rs) ps

-- ---- which lists a book holds

-- whether a bit pattern is one that a book stores: a coordinate's, finite and of magnitude at most 1,000,000, and as it is kept
unfoldable pub coordinate_bits : ℕ → Bool
coordinate_bits b = coordinate (of_bits binary64 b) && eqb (kept (of_bits binary64 b)) b

pub record Coordinate (b : ℕ) : Type 0 where
  pub pattern : b < 2 ^ 64
  pub bounded : coordinate_bits b ≡ true

pub record Corner (v : Vertex) : Type 0 where
  pub x : Coordinate v.x
  pub y : Coordinate v.y

pub record Outline (r : List Vertex) : Type 0 where
  pub least : vertices_least ≤ length r
  pub most : length r ≤ vertices_most
  pub corners : Each Corner r

-- a part: any number of 32 bits
abbrev pub PartNumber : ℕ → Type 0
PartNumber p = p < 2 ^ 32

pub record Accepted (rs : List (List Vertex)) (ps : List ℕ) : Type 0 where
  pub least : 1 ≤ length rs
  pub most : length rs ≤ rings_most
  pub rings : Each Outline rs
  pub many : length ps ≡ length rs
  pub parts : Each PartNumber ps

-- equally long, and each ring is a reading of the one at its place, where coordinates are compared by a relation
pub record SameOutlines (R : ℕ → ℕ → Type 0) (rs xs : List (List Vertex)) : Type 0 where
  pub long : length rs ≡ length xs
  pub each : (i : ℕ) → i < length rs → ReadsUpTo R (get_or rs i []) (get_or xs i [])

-- ---- what a file holds, if it is a book

-- k coordinates
unfoldable pub coords_in : ℕ → List ℕ → List ℕ
coords_in zero f = []
coords_in (suc k) f = number_of (take coordinate_bytes f) ∷ coords_in k (drop coordinate_bytes f)

-- of k entries the field that stands `p` bytes into each
unfoldable pub fields_in : ℕ → ℕ → List ℕ → List ℕ
fields_in p zero f = []
fields_in p (suc k) f = number_of (take field_bytes (drop p f)) ∷ fields_in p k (drop entry_bytes f)

-- the vertex counts of k entries
abbrev pub counts_in : ℕ → List ℕ → List ℕ
counts_in k f = fields_in field_bytes k f

-- their parts
abbrev pub parts_in : ℕ → List ℕ → List ℕ
parts_in k f = fields_in (2 * field_bytes) k f

-- rings of these counts, one after the other
unfoldable pub rings_in : List ℕ → List ℕ → List (List Vertex)
rings_in [] f = []
rings_in (n ∷ ns) f = vertices (coords_in (2 * n) f) ∷ rings_in ns (drop (vertex_bytes * n) f)

-- the two last fields
unfoldable pub ring_count : List ℕ → ℕ
ring_count f = number_of (take field_bytes (drop (length f - tail_bytes) f))

unfoldable pub entry_offset : List ℕ → ℕ
entry_offset f = number_of (take field_bytes (drop (length f - field_bytes) f))

-- the coordinates before the first entry
unfoldable pub coords_of : List ℕ → List ℕ
coords_of f = coords_in (entry_offset f / coordinate_bytes) f

unfoldable pub counts_of : List ℕ → List ℕ
counts_of f = counts_in (ring_count f) (drop (entry_offset f) f)

unfoldable pub parts_of : List ℕ → List ℕ
parts_of f = parts_in (ring_count f) (drop (entry_offset f) f)

unfoldable pub rings_of : List ℕ → List (List Vertex)
rings_of f = rings_in (counts_of f) f
