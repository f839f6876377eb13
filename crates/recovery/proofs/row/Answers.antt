-- `recovery::row` meets its contract. The invariant: the first i edges are taken. Assumes nothing.
use native.Mathlib.Omega.{arith}
use mathlib.Core.Path.{refl, ap, ◌∙◌}
use Rattle.laws.specs.FirstBest.{over}
use Rattle.laws.proofs.FirstBest.{over_turn}
use Rattle.recovery.specs.Recovery.{nearer_point}
use Rattle.recovery.proofs.row.Goals as goal

pub loop-i-init : goal.loop-i-init
unfolding over
loop-i-init c = refl

pub loop-i-preserved : goal.loop-i-preserved
loop-i-preserved c = over_turn nearer_point _ _ _ c.loop-i.invariant c.foot.ensures c.keep-near.ensures

pub returns : goal.returns
returns c = c.loop-i.invariant ∙ ap (over nearer_point _ _) (omega arith)
