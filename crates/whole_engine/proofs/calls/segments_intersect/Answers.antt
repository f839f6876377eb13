-- `whole_engine::calls::segments_intersect` meets its contract: points that pass the tests are within their bounds. Assumes nothing.
use Rattle.whole_engine.proofs.Passed.{all_within, small_four}
use Rattle.whole_engine.proofs.calls.segments_intersect.Goals as goal

pub segments_intersect-requires : goal.segments_intersect-requires
segments_intersect-requires c =
    small_four _ _ _ _ _ _ _ _ c.spot_of.ensures c.spot_of-2.ensures c.spot_of-3.ensures c.spot_of-4.ensures (all_within _ (rw (← c.in_ok-numbers.ensures)))
