-- `whole_engine::calls::signed_area2` meets its contract: a ring that passes the tests is within its bounds. Assumes nothing.
use Rattle.whole_engine.proofs.Passed.{ring_within}
use Rattle.whole_engine.proofs.calls.signed_area2.Goals as goal

pub signed_area2-requires : goal.signed_area2-requires
signed_area2-requires c = ring_within _ (rw (← c.in_ok-ring.ensures))
