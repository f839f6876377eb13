-- Which rings the writer's row of tests takes. Assumes nothing.
use native.Mathlib.Omega.{arith}
use mathlib.Core.Path.{◌≡◌}
use mathlib.Core.Bool.{true}
use mathlib.Core.List.{List}
use lib.Ieee.{Float}
use Rattle.refusals.specs.Refusals.{passed}
use Rattle.refusals.specs.Bounds.{coordinates}
use Rattle.refusals.specs.Lists.{polygon_extent}
use Rattle.refusals.specs.Rows.{of_polygon}
use Rattle.refusals.proofs.Sized.{Polygon, Fine}
use Rattle.refusals.proofs.Faults.{fault_none}

module _ (xs : List Float) where
  pub taken_of : Polygon xs → coordinates xs ≡ true → passed (of_polygon xs) ≡ true
  unfolding of_polygon
  taken_of p b =
      let f : Fine (polygon_extent xs) = record { whole = p.even; enough = omega (arith, p.least); within = omega (arith, p.most) } in
      rw (← fault_none (polygon_extent xs) 0 f, b)
