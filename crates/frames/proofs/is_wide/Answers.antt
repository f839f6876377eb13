-- `frames::is_wide` meets its contract. Assumes nothing.
use mathlib.Core.Path.{refl}
use Rattle.frames.specs.Frame.{wide}
use Rattle.frames.proofs.is_wide.Goals as goal

pub returns-then-far-tol : goal.returns-then-far-tol
unfolding wide
returns-then-far-tol c = rw (c.if-tol.true, c.if-far-tol.true) refl

pub returns-else-far-tol : goal.returns-else-far-tol
unfolding wide
returns-else-far-tol c = rw (c.if-tol.true, c.if-far-tol.false) refl

pub returns-else-tol : goal.returns-else-tol
unfolding wide
returns-else-tol c = rw c.if-tol.false refl
