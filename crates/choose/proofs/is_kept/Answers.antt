-- `choose::is_kept` meets its contract. Assumes nothing.
use mathlib.Core.Path.{refl}
use Rattle.vectors.specs.Fit.{keeps, potential_of}
use Rattle.choose.proofs.is_kept.Goals as goal

pub returns : goal.returns
unfolding keeps potential_of
returns c =
    rw (c.is_visited.ensures, c.ahead-at.ensures, c.reach.ensures, c.direction_of.ensures) refl
