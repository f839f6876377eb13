-- `ring_distance::far::put_bounds` meets its contract. Assumes nothing.
use Rattle.ring_distance.specs.Far.{put_bounds}
use Rattle.ring_distance.proofs.far.put_bounds.Goals as goal

pub returns : goal.returns
unfolding put_bounds
returns c = rw (c.put_frame-2.ensures, c.put_frame.ensures)
