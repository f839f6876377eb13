-- `ring::point_at` meets its contract: both reads are within the list. Assumes nothing.
use mathlib.Core.Path.{refl}
use Rattle.ring.specs.Ring.{point_at}
use Rattle.ring.proofs.point_at.Goals as goal

pub returns : goal.returns
unfolding point_at
returns c = refl
