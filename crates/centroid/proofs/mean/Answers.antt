-- `centroid::mean` meets its contract: the sum, then the two quotients. Assumes nothing.
use Rattle.centroid.specs.Centroid.{mean_of}
use Rattle.centroid.proofs.mean.Goals as goal

pub returns : goal.returns
unfolding mean_of
returns c =
    rw (c.nearest_u64_to_f64-n.ensures, c.total-sum.ensures)
