-- `wkb_layout::code` meets its contract: either byte order. Assumes nothing.
use Rattle.wkb_layout.specs.Layout.{read_as}
use Rattle.wkb_layout.proofs.code.Goals as goal

pub returns-in-Big : goal.returns-in-Big
unfolding read_as
returns-in-Big c = rw c.in-Big.is c.big4.ensures

pub returns-in-Little : goal.returns-in-Little
unfolding read_as
returns-in-Little c = rw c.in-Little.is c.number4.ensures
