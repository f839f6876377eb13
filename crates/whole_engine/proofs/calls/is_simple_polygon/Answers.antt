-- `whole_engine::calls::is_simple_polygon` meets its contract: a ring that passes the tests is within its bounds. Assumes nothing.
use Rattle.whole_engine.proofs.Passed.{ring_within}
use Rattle.whole_engine.proofs.calls.is_simple_polygon.Goals as goal

pub is_simple_polygon-requires : goal.is_simple_polygon-requires
is_simple_polygon-requires c = ring_within _ (rw (← c.in_ok-ring.ensures))
