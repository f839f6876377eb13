-- `plane::vector::edges_parallel` meets its contract: the test is the definition's. Assumes nothing.
use Rattle.plane.specs.Vector.{parallel_of}
use Rattle.plane.proofs.vector.edges_parallel.Goals as goal

pub returns : goal.returns
unfolding parallel_of
returns c = cc
