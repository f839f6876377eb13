-- `centroid::grown` meets its contract: the operations are those of the definition. Assumes nothing.
use Rattle.std.proofs.Common.{refl}
use Rattle.centroid.specs.Centroid.{grown_of}
use Rattle.centroid.proofs.grown.Goals as goal

pub returns : goal.returns
unfolding grown_of
returns c = refl
