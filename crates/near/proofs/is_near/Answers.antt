-- `near::is_near` meets its contract. Assumes nothing.
use mathlib.Core.Path.{refl}
use Rattle.plane.specs.Vector.{distance_of}
use Rattle.near.proofs.is_near.Goals as goal

pub returns : goal.returns
unfolding distance_of
returns c = rw (c.is_shorter.ensures, c.minus.ensures) refl
