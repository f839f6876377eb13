-- What is written to a lent room: a list at its front, a point as one of its vertices. Definitions only.
use Rattle.std.specs.Prelude.{ℕ, ◌+◌, ◌*◌, List, ◌++◌, length, drop, set, Float}
use Rattle.plane.specs.declared.Point.{Point}

-- the list, and then what the room held there
abbrev pub laid : {A : Type 0} → List A → List A → List A
laid l room = l ++ drop (length l) room

-- a room whose vertex i is p
unfoldable pub put_at : List Float → ℕ → Point → List Float
put_at room i p = set (set room (2 * i) p.x) (2 * i + 1) p.y
