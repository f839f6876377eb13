-- `frames::is_past` meets its contract. Assumes nothing.
use mathlib.Core.Path.{refl, sym}
use Rattle.frames.specs.Frame.{past}
use lib.Ieee.{binary64, fits}
use mathlib.Core.Path.{refl, sym, subst}
use lib.Dec.{T}
use Rattle.frames.proofs.is_past.Goals as goal
use Rattle.frames.proofs.is_past.Goals.{Start}

held : (c : Start) → T (fits binary64 c.args.a)
held c = subst T (sym c.well_formed.1.0.1) tt

pub returns-then-g-far : goal.returns-then-g-far
unfolding past
returns-then-g-far c = (rw c.if-g-far.true refl, held c.before)

pub returns-then-g-far-2 : goal.returns-then-g-far-2
unfolding past
returns-then-g-far-2 c = (rw (c.if-g-far.false, c.if-g-far-2.true) refl, held c.before.before)

pub returns : goal.returns
unfolding past
returns c = (rw (c.if-g-far.false, c.if-g-far-2.false) refl, held c.before.before)
