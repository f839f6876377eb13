-- `ring_distance::far::is_far` meets its contract: the test of what the table has for the chain. Assumes nothing.
use Rattle.ring_distance.specs.Far.{bounds_at}
use Rattle.ring_distance.proofs.far.is_far.Goals as goal

pub returns : goal.returns
unfolding bounds_at
returns c = rw (← c.frame_in.ensures, ← c.frame_in-2.ensures) c.is_off.ensures
