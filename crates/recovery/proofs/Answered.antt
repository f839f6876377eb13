-- What the call answers is the move to what the theorem of the scan demands: the first of the nearest points, in the order
-- of the pairs. Assumes nothing.
use Prim.Native.Nat.{ℕ, ◌*◌}
use native.Mathlib.Omega.{arith}
use mathlib.Core.Path.{◌≡◌}
use mathlib.Core.Bool.{Bool, true, false, cond}
use mathlib.Core.List.{List}
use lib.Ieee.{Float}
use Rattle.laws.specs.FirstBest.{flat_rows, First}
use Rattle.plane.specs.declared.Point.{Point}
use Rattle.ring.specs.Ring.{count}
use Rattle.refusals.specs.Refusals.{passed}
use Rattle.refusals.specs.Rows.{of_moving}
use Rattle.refusals.specs.Answers.{answers, refuses, answered}
use Rattle.std.specs.Prelude.{Option, Ok}
use Rattle.recovery.specs.Recovery.{closest_at, nearer_point, afar, closest_of, move_to, recover_of}
use Rattle.recovery.specs.Calls.{recover_call}
use Rattle.recovery.specs.declared.Closest.{Closest}
use Rattle.recovery.proofs.Nearest.{closest_first}

module _ (s o : List Float) (current : Point) (tol : Float) where
  -- f is the move to a point c that is the first of the nearest, or nothing
  abbrev ToNearest : Option Point → Type 0
  ToNearest f =
      (c : Closest) × First nearer_point (flat_rows (closest_at s o) (count s)) afar (count o * count s) c × (f ≡ move_to c.target c.distance o current tol)

  pub answer_nearest : (f : Option Point) → answered (Ok f) ≡ recover_call s o current tol → ToNearest f
  unfolding recover_of
  answer_nearest f h = go (passed (of_moving s o current tol)) h
    where
      go : (b : Bool) → answers f ≡ cond b (answers (recover_of s o current tol)) (refuses (of_moving s o current tol)) → ToNearest f
      go true e =
          (closest_of s o, closest_first s o, cc)
      go false e = absurd (let z : ◌≡◌ {A = ℕ} 0 1 = cc in omega arith)
