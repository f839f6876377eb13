-- When a ring is simple, as `polygon_ops.rs` tests it. Definitions only.
use Rattle.std.specs.Prelude.{ℕ, ◌+◌, ◌-◌, Bool, not, ◌&&◌, ◌||◌, List, leb, eqb, Float}
use Rattle.ring.specs.Each.{each}
use Rattle.ring.specs.Ring.{count, point_at, next_of}
use Rattle.segments.specs.Segments.{intersect_of}

-- the edges i and j of n share a vertex: j comes next, or they are the first and the last
unfoldable pub adjacent_of : ℕ → ℕ → ℕ → Bool
adjacent_of i j n = eqb j (i + 1) || eqb i 0 && eqb j (n - 1)

-- they share a vertex, or they do not meet
unfoldable pub clear_pair : List Float → ℕ → ℕ → Bool
clear_pair r i j =
    adjacent_of i j (count r)
    || not (intersect_of (point_at r i) (point_at r (next_of i (count r))) (point_at r j) (point_at r (next_of j (count r))))

-- the edge i and each later one
unfoldable pub clear_row : List Float → ℕ → Bool
clear_row r i = each (clear_pair r i) (i + 1) (count r - (i + 1))

unfoldable pub is_simple : List Float → Bool
is_simple r = leb 3 (count r) && each (clear_row r) 0 (count r)
