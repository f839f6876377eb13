-- `near::is_longer` meets its contract: `proofs/Far.antt` has the case without a root. Assumes nothing.
use mathlib.Core.Path.{refl, sym, subst}
use lib.Dec.{T}
use Rattle.plane.specs.Vector.{length_of, dot_of}
use Rattle.near.proofs.Far.{far_above}
use Rattle.near.proofs.is_longer.Goals as goal

pub returns-then-s-tol : goal.returns-then-s-tol
unfolding length_of dot_of
returns-then-s-tol c =
    sym (far_above _ _ _ (subst T (sym c.well_formed.1.0.1) tt) c.if-tol.true (rw c.dot-s.ensures at c.if-s-tol.true))

pub returns : goal.returns
unfolding length_of
returns c = rw (c.sqrt.ensures.is, c.dot-s.ensures) refl
