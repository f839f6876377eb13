-- `reason_check::lowest` meets its contract. The invariant: the least height of the first i corners. Assumes nothing.
use Prim.Native.Nat.{◌/◌}
use native.Mathlib.Omega.{arith}
use mathlib.Core.Path.{◌≡◌, refl, ap, ◌∙◌}
use lib.ListN.{length}
use Rattle.shifted.specs.Shifted.{spot_at}
use Rattle.reasons.specs.Lowest.{low_spot, lowest}
use Rattle.reason_check.proofs.Heights.{turn}
use Rattle.reason_check.proofs.lowest.Goals as goal

pub loop-i-init : goal.loop-i-init
unfolding low_spot
loop-i-init c = refl

pub loop-i-preserved : goal.loop-i-preserved
loop-i-preserved c =
    turn _ _ _ c.loop-i.invariant c.smaller.ensures c.smaller-low.ensures

pub returns : goal.returns
returns c =
    let e : c.loop-i.i ≡ length c.args.a.now / 2 = omega arith in
    c.loop-i.invariant ∙ ap (lowest (spot_at c.args.a.now) (spot_at c.args.b.now)) e
