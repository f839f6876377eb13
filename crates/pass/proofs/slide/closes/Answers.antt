-- `pass::slide::closes` meets its contract: the length of the path, then the distance to the start. Assumes nothing.
use borrow.Author.Tests.{lt-ltb, le-ltb}
use mathlib.Core.Path.{refl}
use Rattle.pass.specs.Slide.{closes_of}
use Rattle.pass.proofs.slide.closes.Goals as goal

pub returns-then-path-gt2 : goal.returns-then-path-gt2
unfolding closes_of
returns-then-path-gt2 c = rw (lt-ltb _ _ c.if-path-gt2.true, c.is_near.ensures) refl

pub returns-else-path-gt2 : goal.returns-else-path-gt2
unfolding closes_of
returns-else-path-gt2 c = rw (le-ltb _ _ c.if-path-gt2.false) refl
