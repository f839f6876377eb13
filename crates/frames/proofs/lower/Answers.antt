-- `frames::lower` meets its contract. Assumes nothing.
use mathlib.Core.Path.{refl}
use Rattle.frames.specs.Frame.{lower_number}
use mathlib.Core.Path.{subst, sym}
use lib.Dec.{T}
use Rattle.frames.proofs.lower.Goals as goal

pub returns-then-x-bound : goal.returns-then-x-bound
unfolding lower_number
returns-then-x-bound c = (rw c.if-x-bound.true refl, subst T (sym c.well_formed.1.0.1) tt)

pub returns-else-x-bound : goal.returns-else-x-bound
unfolding lower_number
returns-else-x-bound c = (rw c.if-x-bound.false refl, subst T (sym c.well_formed.1.0.1) tt)
