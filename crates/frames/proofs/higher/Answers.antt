-- `frames::higher` meets its contract. Assumes nothing.
use mathlib.Core.Path.{refl}
use Rattle.frames.specs.Frame.{higher_number}
use Rattle.frames.proofs.higher.Goals as goal

pub returns-then-bound-x : goal.returns-then-bound-x
unfolding higher_number
returns-then-bound-x c = rw c.if-bound-x.true refl

pub returns-else-bound-x : goal.returns-else-bound-x
unfolding higher_number
returns-else-bound-x c = rw c.if-bound-x.false refl
