-- The directions of a ring's edges, at the front of a room. Definitions only.
use Rattle.std.specs.Prelude.{ℕ, ◌≤◌, ◌<◌, ◌≡◌, List, Float}
use Rattle.plane.specs.Vector.{minus_of, normalize_of}
use Rattle.plane.specs.declared.Point.{Point}
use Rattle.ring.specs.Ring.{count, point_at, next_of}

-- the edge i as a vector
unfoldable pub edge_of : List Float → ℕ → Point
edge_of ring i = minus_of (point_at ring (next_of i (count ring))) (point_at ring i)

-- the unit vector along it
abbrev pub direction_at : List Float → ℕ → Point
direction_at ring i = normalize_of (edge_of ring i)

-- point i of a room is the direction of edge i
pub record Directed (dirs ring : List Float) : Type 0 where
  pub most : count ring ≤ count dirs
  pub each : (i : ℕ) → i < count ring → point_at dirs i ≡ direction_at ring i
