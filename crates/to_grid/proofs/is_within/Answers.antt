-- `to_grid::is_within` meets its contract. Assumes nothing.
use mathlib.Core.Path.{sym, subst}
use lib.Dec.{T}
use lib.Ieee.{binary64, fits}
use Rattle.to_grid.proofs.Million.{within_exactly}
use Rattle.to_grid.proofs.is_within.Goals as goal
use Rattle.to_grid.proofs.is_within.Goals.{Start}

-- what owning an `f64` tells: the format holds it
held : (c : Start) → T (fits binary64 c.args.x)
held c = subst T (sym c.well_formed.0.1) tt

pub returns-then-x-most : goal.returns-then-x-most
returns-then-x-most c = λ units w. simp c.if-x-most.true at (within_exactly units _ _ (held c.before) w)

pub returns-else-x-most : goal.returns-else-x-most
returns-else-x-most c = λ units w. simp c.if-x-most.false at (within_exactly units _ _ (held c.before) w)
