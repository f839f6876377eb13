-- A ring is lent as x, y alternating. Definitions only.
use Rattle.std.specs.Prelude.{ℕ, ◌+◌, ◌*◌, ◌-◌, ◌/◌, ◌%◌, cond, List, length, get_or, eqb, Float}
use Rattle.std.specs.Float.{nan}
use Rattle.plane.specs.declared.Point.{Point}

-- how many vertices
abbrev pub count : List Float → ℕ
count r = length r / 2

-- vertex i. Past the end the float is nan, as a read of a slice has it in the logic
unfoldable pub point_at : List Float → ℕ → Point
point_at r i = record { x = get_or r (2 * i) nan; y = get_or r (2 * i + 1) nan }

-- the vertex after i of n
abbrev pub next_of : ℕ → ℕ → ℕ
next_of i n = (i + 1) % n

-- the vertex before i of n
unfoldable pub previous_vertex : ℕ → ℕ → ℕ
previous_vertex i n = cond (eqb i 0) (n - 1) (i - 1)
