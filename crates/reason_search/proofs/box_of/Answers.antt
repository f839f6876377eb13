-- `reason_search::box_of` meets its contract. The invariant: the box of the first i corners. Assumes nothing.
use Prim.Native.Nat.{◌/◌}
use native.Mathlib.Omega.{arith}
use mathlib.Core.Path.{◌≡◌, ap, ◌∙◌}
use lib.ListN.{length}
use Rattle.shifted.specs.Shifted.{spot_at}
use Rattle.reason_search.specs.Lines.{box_low, box_high}
use Rattle.reason_search.proofs.Boxes.{low_turn, high_turn}
use Rattle.reason_search.proofs.box_of.Goals as goal

pub loop-i-init : goal.loop-i-init
unfolding box_low box_high
loop-i-init c = (c.spot_at-low.ensures, c.spot_at-high.ensures)

pub spot_at-requires-in-loop-i : goal.spot_at-requires-in-loop-i
spot_at-requires-in-loop-i c =
    omega (arith, c.loop-i-test.true, c.requires.0.same)

pub spot_at-requires-in-loop-i-3 : goal.spot_at-requires-in-loop-i-3
spot_at-requires-in-loop-i-3 c =
    omega (arith, c.loop-i-test.true, c.requires.0.same)

pub loop-i-preserved : goal.loop-i-preserved
loop-i-preserved c =
    let v = c.loop-i.invariant in (
      low_turn _ _ _ v.0 c.spot_at.ensures c.spot_at-in-loop-i.ensures c.low_of.ensures
          c.low_of-low.ensures,
      high_turn _ _ _ v.1 c.spot_at-in-loop-i-2.ensures c.spot_at-in-loop-i-3.ensures c.high_of.ensures
          c.high_of-high.ensures,
    )

pub returns : goal.returns
returns c =
    let g = c.args in
    let e : c.loop-i.i ≡ length g.a.now / 2 = omega arith in (
      c.loop-i.invariant.0 ∙ ap (box_low (spot_at g.a.now) (spot_at g.b.now)) e,
      c.loop-i.invariant.1 ∙ ap (box_high (spot_at g.a.now) (spot_at g.b.now)) e,
    )
