-- `winding::ensure_ccw` meets its contract: the sign of the area gives the order. Assumes nothing.
use Rattle.winding.proofs.Order.{made_ccw}
use Rattle.winding.proofs.ensure_ccw.Goals as goal

pub returns : goal.returns
returns c =
    made_ccw _ _ c.requires.polygon_len c.signed_area.ensures c.ordered.ensures
