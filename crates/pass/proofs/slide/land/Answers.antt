-- `pass::slide::land` meets its contract. Assumes nothing.
use mathlib.Core.Path.{refl}
use Rattle.pass.specs.Slide.{land_of}
use Rattle.pass.proofs.slide.land.Goals as goal

pub returns-then-closes : goal.returns-then-closes
unfolding land_of
returns-then-closes c = rw (← c.closes.ensures, c.if-closes.true) refl

pub returns-then-is_far : goal.returns-then-is_far
unfolding land_of
returns-then-is_far c =
    rw (← c.closes.ensures, c.if-closes.false, ← c.is_far.ensures, c.if-is_far.true) refl

pub returns-else-is_far : goal.returns-else-is_far
unfolding land_of
returns-else-is_far c =
    rw (← c.closes.ensures, c.if-closes.false, ← c.is_far.ensures, c.if-is_far.false) refl
