-- `to_grid::calls::to_grid` meets its contract: what passes the tests fits the grid. Assumes nothing.
use Rattle.to_grid.proofs.Screened.{passing}
use Rattle.to_grid.proofs.calls.to_grid.Goals as goal

pub lay-requires-clause-list_value : goal.lay-requires-clause-list_value
lay-requires-clause-list_value c = passing _ _ c.in_ok-lent.ensures
