-- `start_position::vertex` meets its contract. The invariant: the first i vertices are taken. Assumes nothing.
use native.Mathlib.Omega.{arith}
use Prim.Native.Nat.{ℕ, ◌+◌}
use mathlib.Core.Path.{◌≡◌}
use mathlib.Core.Bool.{Bool}
use mathlib.Core.List.{List}
use lib.Ieee.{Float}
use Rattle.plane.specs.declared.Point.{Point}
use Rattle.ring.specs.Ring.{count, point_at}
use Rattle.laws.specs.FirstBest.{over}
use Rattle.laws.proofs.FirstBest.{over_turn}
use Rattle.start_position.specs.Start.{order_of, kept_vertex, extreme_vertex}
use Rattle.start_position.proofs.vertex.Goals as goal

module _ (top : Bool) (r : List Float) (i : ℕ) {best : Point} (h : best ≡ over (order_of top) (point_at r) (point_at r 0) i) where
  -- one vertex more
  turn : {p new : Point} → p ≡ point_at r i → new ≡ kept_vertex top best p → new ≡ over (order_of top) (point_at r) (point_at r 0) (i + 1)
  turn k e = over_turn (order_of top) (point_at r) (point_at r 0) i h k e

  done : i ≡ count r → best ≡ extreme_vertex top r
  unfolding extreme_vertex
  done e = rw (← e) h

pub loop-i-init : goal.loop-i-init
unfolding over
loop-i-init c = c.point_at-best.ensures

pub loop-i-preserved : goal.loop-i-preserved
loop-i-preserved c =
    let a = c.args in
    turn a.top a.ring.now c.loop-i.i c.loop-i.invariant c.point_at.ensures c.keep-best.ensures

pub returns : goal.returns
returns c =
    let a = c.args in
    done a.top a.ring.now c.loop-i.i c.loop-i.invariant (omega arith)
