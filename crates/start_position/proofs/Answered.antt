-- What the call answers is what the theorems of the two vertices demand: stationary's lowest vertex less orbiting's
-- highest. Assumes nothing.
use Prim.Native.Nat.{ℕ}
use native.Mathlib.Omega.{arith}
use mathlib.Core.Path.{◌≡◌, refl}
use mathlib.Core.Bool.{Bool, true, false, cond}
use mathlib.Core.List.{List}
use lib.Ieee.{Float}
use Rattle.plane.specs.Vector.{minus_of}
use Rattle.plane.specs.declared.Point.{Point}
use Rattle.ring.specs.Ring.{count}
use Rattle.refusals.specs.Refusals.{passed}
use Rattle.refusals.specs.Rows.{of_two_polygons}
use Rattle.refusals.specs.Answers.{answers, refuses, answered}
use Rattle.refusals.proofs.Sized.{two_polygons, two_bounded}
use Rattle.start_position.specs.Start.{extreme_vertex, start_of}
use Rattle.start_position.specs.Extreme.{Lowest, Highest}
use Rattle.start_position.specs.Calls.{start_call}
use Rattle.std.specs.Prelude.{Ok}
use Rattle.start_position.proofs.Extreme.{vertex_lowest, vertex_highest}

module _ (st orb : List Float) where
  -- p is a lowest vertex of the one less a highest of the other
  abbrev Between : Point → Type 0
  Between p = (low : Point) × (high : Point) × Lowest st (count st) low × Highest orb (count orb) high × (p ≡ minus_of low high)

  extremes : passed (of_two_polygons st orb) ≡ true → Between (start_of st orb)
  unfolding start_of
  extremes h =
      let z = two_polygons st orb h in
      let b = two_bounded st orb h in (
        extreme_vertex false st,
        extreme_vertex true orb,
        vertex_lowest st (omega (arith, z.0.least)) b.0,
        vertex_highest orb (omega (arith, z.1.least)) b.1,
        refl,
      )

  pub answer_extreme : (p : Point) → answered (Ok p) ≡ start_call st orb → Between p
  answer_extreme p h = go (passed (of_two_polygons st orb)) refl h
    where
      go : (b : Bool) → passed (of_two_polygons st orb) ≡ b
          → answers p ≡ cond b (answers (start_of st orb)) (refuses (of_two_polygons st orb)) → Between p
      go true e q = let s : p ≡ start_of st orb = cc in rw s (extremes e)
      go false e q = absurd (let z : ◌≡◌ {A = ℕ} 0 1 = cc in omega arith)
