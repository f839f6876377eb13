-- `choose::raise` meets its contract. Assumes nothing.
use mathlib.Core.Path.{refl}
use Rattle.choose.specs.Choose.{raised_by}
use Rattle.choose.proofs.raise.Goals as goal

pub returns-then-s-top : goal.returns-then-s-top
unfolding raised_by
returns-then-s-top c = rw c.if-s-top.true refl

pub returns-then-found : goal.returns-then-found
unfolding raised_by
returns-then-found c = rw (c.if-s-top.false, c.if-found.true) refl

pub returns-else-found : goal.returns-else-found
unfolding raised_by
returns-else-found c = rw (c.if-s-top.false, c.if-found.false) refl
