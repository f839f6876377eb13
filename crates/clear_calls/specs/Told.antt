-- What an answer of `clear` says. All lists hold x, y, x, y .. moved up: st the stationary corners, a the orbiting ones at the
-- start, b at the end, ls the points p, q of each line. Definitions only.
use Rattle.std.specs.Prelude.{ℕ, suc, ◌+◌, ◌*◌, ◌/◌, ◌<◌, ◌≡◌, List, length}
use Rattle.shifted.specs.Shifted.{spot_at}
use Rattle.reasons.specs.Moves.{Leg, legs, way, InsideAt}
use Rattle.reasons.specs.Crossing.{ups, downs}
use Rattle.reasons.specs.Reason.{Reason}
use Rattle.reasons.specs.Lowest.{low_spot}
use Rattle.reasons.specs.Check.{corner, line_from, line_to}

-- corner i of the orbiting polygon goes from its place in a to its place in b
abbrev pub legs_of : List ℕ → List ℕ → List Leg
legs_of a b = legs (spot_at a) (spot_at b) (length a / 2)

-- the lines are a reason that the ring and the way lie apart
abbrev pub IsReason : List ℕ → List ℕ → List ℕ → List ℕ → Type 0
IsReason st a b ls =
    Reason (way (legs_of a b)) (low_spot (spot_at a) (spot_at b) (length a / 2)) (corner st) (line_from ls) (line_to ls) (length st / 2)

-- at no time v / (u + v) has the moved polygon a point (X, Y) over (u + v) * l inside it that lies on a stationary edge, from
-- corner j to the next; and each that it has lies outside the stationary ring
pub record Apart (st a b : List ℕ) : Type 0 where
  pub off_edges : (u v l X Y : ℕ) → InsideAt (legs_of a b) u v l X Y → (j : ℕ) → j < length st / 2
      → (g h : ℕ) → g + h ≡ (u + v) * l → g * (corner st j).x + h * (corner st (suc j)).x ≡ X
      → g * (corner st j).y + h * (corner st (suc j)).y ≡ Y → ⊥
  pub outside : (u v l X Y : ℕ) → InsideAt (legs_of a b) u v l X Y
      → ups (corner st) (length st / 2) ((u + v) * l) X Y ≡ downs (corner st) (length st / 2) ((u + v) * l) X Y
