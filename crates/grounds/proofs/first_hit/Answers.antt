-- `grounds::first_hit` meets its contract: `proofs/Missed.antt` has the laws. The invariant: the edges below e are missed. Assumes nothing.
use native.Mathlib.Omega.{arith}
use mathlib.Core.Path.{sym, ◌∙◌}
use Rattle.grounds.proofs.Missed.{none_missed, more_missed, one_missed}
use Rattle.grounds.proofs.first_hit.Goals as goal

pub loop-e-init : goal.loop-e-init
loop-e-init c = none_missed _ _ _ _ _

pub returns-in-Some : goal.returns-in-Some
returns-in-Some c = record { not_before = c.loop-e.auto.e; below = c.loop-e-test.true; misses = c.loop-e.invariant; hits = sym c.edge_ray.ensures ∙ c.in-Some.is }

pub loop-e-preserved : goal.loop-e-preserved
loop-e-preserved c =
    more_missed _ _ _ _ _ _ _ c.loop-e.invariant (one_missed _ _ _ _ _ c.edge_ray.ensures c.in_default.is)

pub returns : goal.returns
returns c = λ k l h. c.loop-e.invariant k l (omega (arith, h, c.loop-e-test.false))
