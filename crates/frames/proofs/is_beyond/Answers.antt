-- `frames::is_beyond` meets its contract. Assumes nothing.
use mathlib.Core.Path.{refl}
use Rattle.frames.specs.Frame.{beyond}
use Rattle.frames.proofs.is_beyond.Goals as goal

pub returns-then-low-top : goal.returns-then-low-top
unfolding beyond
returns-then-low-top c = rw c.if-low-top.true refl

pub returns : goal.returns
unfolding beyond
returns c = rw c.if-low-top.false refl
