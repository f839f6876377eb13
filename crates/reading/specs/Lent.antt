-- Rings that are lent as f64s, x and y in turn. Definitions only.
use Rattle.std.specs.Prelude.{ℕ, ◌+◌, ◌-◌, ◌%◌, ◌≤◌, ◌<◌, ◌≡◌, not, cond, List, map, length, get_or, T, ltb, Float}
use Rattle.std.specs.Float.{nan, binary64}
use Rattle.std.specs.Float.Ieee.{is_nan, eq, of_bits, to_bits}
use Rattle.reading.specs.Reading.{Vertex, vertices, ord}

-- a coordinate's bits as a book keeps them: those of +0.0 for either zero, and else its own
unfoldable pub kept : Float → ℕ
kept x = cond (eq x (of_bits binary64 0)) 0 (to_bits binary64 x)

-- the ring that is lent, as a book keeps its coordinates
abbrev pub ring_of : List Float → List Vertex
ring_of xs = vertices (map kept xs)

-- a ring of at most 256 vertices, with no NaN
pub record Lent (xs : List Float) : Type 0 where
  pub even : length xs % 2 ≡ 0
  pub most : length xs ≤ 512
  pub numbers : (i : ℕ) → i < length xs → T (not (is_nan (get_or xs i nan)))

-- number i of a room is the place in the order of numbers of coordinate i, as a book keeps it
pub record Keyed (keys : List ℕ) (xs : List Float) : Type 0 where
  pub most : length xs ≤ length keys
  pub each : (i : ℕ) → i < length xs → get_or keys i 0 ≡ ord (kept (get_or xs i nan))

-- for a place below 2 * n, the same place on a ring of n
abbrev pub wrap : ℕ → ℕ → ℕ
wrap n i = cond (ltb i n) i (i - n)

-- vertex i of the reading c of a ring of n vertices: onward from c, or back from c - n
unfoldable pub vertex_place : ℕ → ℕ → ℕ → ℕ
vertex_place n c i = wrap n (cond (ltb c n) (c + i) (c - i))
