-- `vectors::course::is_long` meets its contract: a square above that of 1.5 has no root below it. Assumes nothing.
use Rattle.vectors.specs.Courses.{f1·5}
use lib.Ieee.{binary64}
use lib.Ieee.Bits.{of_bits-fits}
use Rattle.plane.specs.Vector.{length_of, dot_of}
use Rattle.near.proofs.Below.{no_root}
use Rattle.vectors.proofs.FarOne.{above_none}
use Rattle.vectors.proofs.course.is_long.Goals as goal

pub returns : goal.returns
unfolding length_of dot_of
returns c = λ h. no_root f1·5 _ _ (of_bits-fits binary64 0x3ff8_0000_0000_0000) above_none (rw c.dot.ensures at h)
