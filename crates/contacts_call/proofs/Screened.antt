-- What the tests of two polygons and a tolerance leave, and those of two rooms. Assumes nothing.
use Prim.Native.Nat.{ℕ, ◌≤◌}
use mathlib.Core.Path.{◌≡◌, refl}
use mathlib.Core.List.{List}
use native.Mathlib.Omega.{arith}
use lib.Ieee.{Float}
use Rattle.ring.specs.Ring.{count}
use Rattle.refusals.specs.Refusals.{none}
use Rattle.refusals.specs.Rows.{of_touching, of_rooms}
use Rattle.refusals.proofs.Sized.{Polygon, touching_polygons, rooms_fit}
use Rattle.pairs.specs.Pairs.{Sides}

pub sides : (st orb : List Float) → Polygon st → Polygon orb → Sides (count st) (count orb)
sides st orb p q =
    record {
      stationary_some = omega (arith, p.least);
      stationary_most = omega (arith, p.most);
      orbiting_some = omega (arith, q.least);
      orbiting_most = omega (arith, q.most);
    }

-- two polygons and a tolerance that are not refused
pub lent_is : (st orb : List Float) (tol : Float) → none ≡ of_touching st orb tol → Sides (count st) (count orb)
lent_is st orb tol e = let p = touching_polygons st orb tol e refl refl in sides st orb p.0 p.1

-- two rooms that are not refused are long enough
pub both_fit : (x s y t : ℕ) → none ≡ of_rooms x s y t → (x ≤ s) × (y ≤ t)
both_fit x s y t e = rooms_fit x s y t e refl refl
