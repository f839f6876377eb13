-- `whole_engine::is_simple_polygon` meets its contract: the front of the array has the points of the ring. Assumes nothing.
use Rattle.whole_engine.proofs.Lifting.{small_front, simple_front}
use Rattle.whole_engine.proofs.is_simple_polygon.Goals as goal

pub is_simple-requires : goal.is_simple-requires
is_simple-requires c =
    small_front c.args.ring.now _ c.lift.ensures c.requires.1

pub returns : goal.returns
returns c =
    simple_front c.args.ring.now _ c.lift.ensures c.is_simple.ensures
