-- `ring_distance::far::put_frame` meets its contract. Assumes nothing.
use Rattle.ring_distance.specs.Far.{put_frame}
use Rattle.ring_distance.proofs.far.put_frame.Goals as goal

pub returns : goal.returns
unfolding put_frame
returns c = rw (c.put-2.ensures, c.put.ensures)
