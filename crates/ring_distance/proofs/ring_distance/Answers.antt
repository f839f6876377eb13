-- `ring_distance::ring_distance` meets its contract: the root of the smaller of the two ways, of which the second goes on from the first. Assumes nothing.
use mathlib.Core.Path.{◌∙◌}
use lib.Ieee.{div, of_bits}
use Rattle.ring_distance.proofs.Turns.{both_ways}
use Rattle.ring_distance.proofs.ring_distance.Goals as goal

pub returns : goal.returns
unfolding div of_bits
returns c = c.sqrt.ensures.is ∙ both_ways _ _ c.one_way.ensures c.one_way-2.ensures
