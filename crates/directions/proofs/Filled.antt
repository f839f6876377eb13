-- A room that has the directions of a ring's edges at its front. Assumes nothing.
use Prim.Native.Nat.{ℕ, ◌+◌, ◌*◌, ◌≤◌, ◌<◌}
use native.Mathlib.Omega.{arith}
use mathlib.Core.Path.{◌≡◌, refl, ◌∙◌}
use mathlib.Core.List.{List, ◌++◌}
use lib.ListN.{length, get_or-append}
use lib.Ieee.{Float, nan}
use Rattle.ring.specs.Ring.{count, point_at}
use Rattle.ring.specs.Room.{laid}
use Rattle.ring.specs.Points.{points}
use Rattle.ring.proofs.Points.{points_length, points_at}
use Rattle.directions.specs.Directions.{direction_at, Directed}

at_front : (l rest : List Float) (i : ℕ) → 2 * i + 1 < length l → point_at (l ++ rest) i ≡ point_at l i
unfolding point_at
at_front l rest i h = rw (get_or-append l rest nan (2 * i) (omega arith), get_or-append l rest nan (2 * i + 1) h) refl

pub filled : (ring held : List Float) {room : List Float} → 2 * count ring ≤ length room → room ≡ laid (points (direction_at ring) (count ring)) held
    → Directed room ring
filled ring held l e =
    record {
      most = omega arith;
      each = λ i h. rw e (at_front (points (direction_at ring) (count ring)) _ i (rw points_length (omega arith)) ∙ points_at (direction_at ring) (count ring) i h);
    }
