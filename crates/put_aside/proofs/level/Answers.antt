-- `put_aside::level` meets its contract: case by case. Assumes nothing.
use native.Mathlib.Omega.{arith}
use mathlib.Core.Path.{◌∙◌}
use Rattle.put_aside.specs.Middle.{level}
use Rattle.put_aside.proofs.Leasts.{level_last}
use Rattle.put_aside.proofs.level.Goals as goal

pub returns-in-0 : goal.returns-in-0
unfolding level
returns-in-0 c = (rw c.in-0.is, omega (arith, c.requires.2.width))

pub returns-in-1 : goal.returns-in-1
unfolding level
returns-in-1 c = (rw c.in-1.is, omega (arith, c.requires.2.height))

pub returns-in_default : goal.returns-in_default
returns-in_default c =
    let r = c.in_default.in_default-own.rest in
    (c.across_of.ensures.0 ∙ level_last _ _ _ _ (omega (arith, r.0.1, r.1)), c.across_of.ensures.1)
