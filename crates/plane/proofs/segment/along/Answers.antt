-- `plane::segment::along` meets its contract: the operations are those of the definition. Assumes nothing.
use Rattle.plane.specs.Vector.{minus_of}
use Rattle.plane.specs.Segment.{along_of}
use Rattle.plane.proofs.segment.along.Goals as goal

pub returns : goal.returns
unfolding along_of minus_of
returns c = rw c.minus-d.ensures
