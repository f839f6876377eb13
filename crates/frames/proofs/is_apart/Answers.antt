-- `frames::is_apart` meets its contract. Assumes nothing.
use mathlib.Core.Path.{refl}
use Rattle.frames.specs.Frame.{apart}
use Rattle.frames.proofs.is_apart.Goals as goal

pub returns-then-is_beyond : goal.returns-then-is_beyond
unfolding apart
returns-then-is_beyond c = (rw (← c.margin-far.ensures.0, ← c.is_beyond.ensures, c.if-is_beyond.true) refl, c.margin-far.ensures.1)

pub returns : goal.returns
unfolding apart
returns c = (rw (← c.margin-far.ensures.0, ← c.is_beyond.ensures, c.if-is_beyond.false) c.is_beyond-2.ensures, c.margin-far.ensures.1)
