-- `whole_engine::calls::turn` meets its contract: points that pass the tests are within their bounds. Assumes nothing.
use Rattle.whole_engine.proofs.Passed.{all_within, small_three}
use Rattle.whole_engine.proofs.calls.turn.Goals as goal

pub turn-requires : goal.turn-requires
turn-requires c =
    small_three _ _ _ _ _ _ c.spot_of.ensures c.spot_of-2.ensures c.spot_of-3.ensures (all_within _ (rw (← c.in_ok-numbers.ensures)))
