-- A disc of 4m vertices from the table of its first quarter. Definitions only.
use Rattle.std.specs.Prelude.{ℕ, zero, suc, ◌*◌, ◌/◌, ◌%◌, ◌^◌, ◌≤◌, Bool, ◌||◌, List, eqb, ℤ, neg_ℤ, nat_abs, Float}
use Rattle.std.specs.Float.{binary64}
use Rattle.std.specs.Float.Ieee.{of_int}
use Rattle.scalar.specs.Float.{◌⊕◌, ◌⊗◌, ◌⊘◌, float}
use Rattle.plane.specs.Vector.{point}
use Rattle.plane.specs.declared.Point.{Point}
use Rattle.ring.specs.Points.{points}
use Rattle.disc_table.specs.Table.{entry_of}
use Rattle.disc_table.specs.declared.Entry.{Entry}

-- how many vertices a quarter may have: 1, 2, 4 up to 64
unfoldable pub quarter_ok : ℕ → Bool
quarter_ok m = eqb m 1 || (eqb m 2 || (eqb m 4 || (eqb m 8 || (eqb m 16 || (eqb m 32 || eqb m 64)))))

-- neither number of an entry is past 2^30
abbrev pub Narrow : Entry → Type 0
Narrow e = (nat_abs e.x ≤ 2 ^ 30) × (nat_abs e.y ≤ 2 ^ 30)

-- (X, Y) turned to (-Y, X), the negated entry as a whole number
unfoldable pub quarter_turn : Entry → Entry
quarter_turn e = record { x = neg_ℤ e.y; y = e.x }

-- turned by so many quarters
unfoldable pub turned_by : ℕ → Entry → Entry
turned_by zero e = e
turned_by (suc q) e = quarter_turn (turned_by q e)

-- the entry of vertex i: in the first quarter k = j * 256 / m for j below m, each next quarter turning that of the quarter before
unfoldable pub entry_at : ℕ → ℕ → Entry
entry_at m i = turned_by (i / m) (entry_of (i % m * 256 / m))

-- 2^30
abbrev pub f2^30 : Float
f2^30 = float 0x41d0_0000_0000_0000

-- the centre plus radius times (the entry as a float divided by 2^30), each step rounded once
unfoldable pub reach_of : Float → Float → ℤ → Float
reach_of centre radius z = centre ⊕ radius ⊗ (of_int binary64 z ⊘ f2^30)

-- vertex i
unfoldable pub vertex_of : Point → Float → ℕ → ℕ → Point
vertex_of centre radius m i = point (reach_of centre.x radius (entry_at m i).x) (reach_of centre.y radius (entry_at m i).y)

-- the disc
unfoldable pub disc_of : Point → Float → ℕ → List Float
disc_of centre radius m = points (vertex_of centre radius m) (4 * m)
