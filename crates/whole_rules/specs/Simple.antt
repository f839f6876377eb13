-- When a ring of whole coordinates is simple, vertex i being at `at i`. Definitions only.
use Rattle.std.specs.Prelude.{ℕ, ◌+◌, ◌-◌, Bool, not, ◌&&◌, ◌||◌, leb}
use Rattle.ring.specs.Each.{each}
use Rattle.ring.specs.Ring.{next_of}
use Rattle.simple_polygon.specs.Simple.{adjacent_of}
use Rattle.shifted.specs.declared.Spot.{Spot}
use Rattle.whole_rules.specs.Segments.{whole_intersect}

-- the edges i and j of n share a vertex, or they do not meet
unfoldable pub whole_clear_pair : (ℕ → Spot) → ℕ → ℕ → ℕ → Bool
whole_clear_pair at n i j = adjacent_of i j n || not (whole_intersect (at i) (at (next_of i n)) (at j) (at (next_of j n)))

-- the edge i and each later one
unfoldable pub whole_clear_row : (ℕ → Spot) → ℕ → ℕ → Bool
whole_clear_row at n i = each (whole_clear_pair at n i) (i + 1) (n - (i + 1))

unfoldable pub whole_simple : (ℕ → Spot) → ℕ → Bool
whole_simple at n = leb 3 n && each (whole_clear_row at n) 0 n
