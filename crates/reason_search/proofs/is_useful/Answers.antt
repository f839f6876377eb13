-- `reason_search::is_useful` meets its contract: two points, and then the way. Assumes nothing.
use Rattle.reason_search.proofs.WayLines.{useful_is, useful_not}
use Rattle.reason_search.proofs.is_useful.Goals as goal

pub way_left-requires : goal.way_left-requires
way_left-requires c =
    (c.requires.0, c.way_line-l.ensures.1, c.way_line-l.ensures.2)

pub returns-then-differ : goal.returns-then-differ
returns-then-differ c =
    useful_is _ _ _ _ c.way_line-l.ensures.0 c.differ.ensures c.if-differ.true c.way_left.ensures

pub returns-else-differ : goal.returns-else-differ
returns-else-differ c =
    useful_not _ _ _ _ c.way_line-l.ensures.0 c.differ.ensures c.if-differ.false
