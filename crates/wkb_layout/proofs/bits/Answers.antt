-- `wkb_layout::bits` meets its contract: either byte order. Assumes nothing.
use Rattle.wkb_layout.specs.Layout.{read_as}
use Rattle.wkb_layout.proofs.bits.Goals as goal

pub returns-in-Big : goal.returns-in-Big
unfolding read_as
returns-in-Big c = rw c.in-Big.is c.big8.ensures

pub returns-in-Little : goal.returns-in-Little
unfolding read_as
returns-in-Little c = rw c.in-Little.is c.number8.ensures
