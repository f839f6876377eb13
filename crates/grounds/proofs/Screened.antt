-- What two polygons that are not refused are known to be. Assumes nothing.
use Prim.Native.Nat.{◌≤◌}
use mathlib.Core.Path.{◌≡◌, refl}
use mathlib.Core.List.{List}
use native.Mathlib.Omega.{arith}
use lib.Ieee.{Float}
use Rattle.plane.specs.declared.Point.{Point}
use Rattle.ring.specs.Ring.{count}
use Rattle.refusals.specs.Refusals.{none}
use Rattle.refusals.specs.Rings.{vertices_most}
use Rattle.refusals.specs.Rows.{of_moving}
use Rattle.refusals.proofs.Sized.{moving_polygons}

pub lent_is : (st orb : List Float) (move : Point) (tol : Float) → none ≡ of_moving st orb move tol → (count st ≤ vertices_most) × (count orb ≤ vertices_most)
lent_is st orb move tol e =
    let p = moving_polygons st orb tol move e refl refl in
    (omega (arith, p.0.most), omega (arith, p.1.most))
