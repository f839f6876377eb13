-- `pass::slide::slide` meets its contract. Assumes nothing.
use mathlib.Core.Path.{refl}
use Rattle.pass.specs.Slide.{slide_of}
use Rattle.pass.proofs.slide.slide.Goals as goal

pub returns-then-far-margins : goal.returns-then-far-margins
unfolding slide_of
returns-then-far-margins c = rw (← c.smaller-far.ensures, c.if-far-margins.true) refl

pub returns : goal.returns
unfolding slide_of
returns c =
    rw (← c.smaller-far.ensures, c.if-far-margins.false, c.land.ensures, c.plus.ensures, c.blocked-by.ensures) refl
