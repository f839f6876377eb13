-- `frames::margin` meets its contract. Assumes nothing.
use mathlib.Core.Path.{refl, sym}
use Rattle.frames.specs.Frame.{margin_of}
use lib.Ieee.{binary64, fits, div, of_bits}
use mathlib.Core.Path.{refl, sym, subst}
use lib.Dec.{T}
use Rattle.frames.proofs.margin.Goals as goal
use Rattle.frames.proofs.margin.Goals.{Start}

held : (c : Start) → T (fits binary64 c.args.tol)
held c = subst T (sym c.well_formed.0.1) tt

pub returns-then-is_wide : goal.returns-then-is_wide
unfolding margin_of
returns-then-is_wide c = (rw (← c.is_wide.ensures, c.if-is_wide.true) refl, held c.before.before)

pub returns-else-is_wide : goal.returns-else-is_wide
unfolding margin_of
returns-else-is_wide c = (rw (← c.is_wide.ensures, c.if-is_wide.false) (unfold div of_bits in refl), held c.before.before)
