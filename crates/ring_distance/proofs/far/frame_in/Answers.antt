-- `ring_distance::far::frame_in` meets its contract. Assumes nothing.
use Rattle.ring_distance.specs.Far.{frame_in}
use Rattle.ring_distance.proofs.far.frame_in.Goals as goal

pub returns : goal.returns
unfolding frame_in
returns c = rw (c.point_at-near.ensures, c.point_at-far.ensures)
