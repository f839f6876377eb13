-- A ring moved by a point. Definitions only.
use Rattle.std.specs.Prelude.{ℕ, List, Float}
use Rattle.plane.specs.Vector.{plus_of}
use Rattle.plane.specs.declared.Point.{Point}
use Rattle.ring.specs.Ring.{count, point_at}
use Rattle.ring.specs.Points.{points}

-- vertex i plus p
abbrev pub moved_at : List Float → Point → ℕ → Point
moved_at r p i = plus_of (point_at r i) p

-- each vertex plus p
unfoldable pub moved_of : List Float → Point → List Float
moved_of r p = points (moved_at r p) (count r)
