-- `ring_distance::way_by` meets its contract. The invariant: the first i vertices are taken. Assumes nothing.
use mathlib.Core.Path.{refl}
use Rattle.ring_distance.specs.Squared.{squared_way}
use Rattle.ring_distance.proofs.Turns.{vertex_taken, at_end}
use Rattle.ring_distance.proofs.way_by.Goals as goal

pub loop-i-init : goal.loop-i-init
unfolding squared_way
loop-i-init c = refl

pub to_chains-least-requires : goal.to_chains-least-requires
to_chains-least-requires c = c.requires

pub loop-i-preserved : goal.loop-i-preserved
loop-i-preserved c = vertex_taken _ _ _ _ c.loop-i.invariant c.point_at.ensures c.to_chains-least.ensures

pub returns : goal.returns
returns c = at_end (squared_way _ _ _) c.loop-i.invariant c.loop-i.auto.i-end c.loop-i-test.false
