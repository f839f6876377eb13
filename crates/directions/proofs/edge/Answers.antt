-- `directions::edge` meets its contract. Assumes nothing.
use mathlib.Core.Path.{refl}
use Rattle.directions.specs.Directions.{edge_of}
use Rattle.directions.proofs.edge.Goals as goal

pub returns : goal.returns
unfolding edge_of
returns c =
    rw (c.minus.ensures, c.point_at-2.ensures, c.point_at.ensures, c.next.ensures.0) refl
