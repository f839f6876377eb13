-- `wkb_reader::check::number` meets its contract: the bits are read in the file's order. Assumes nothing.
use Rattle.wkb_layout.specs.Layout.{bits_in}
use Rattle.wkb_reader.proofs.check.number.Goals as goal

pub returns : goal.returns
unfolding bits_in
returns c = rw (c.float_of.ensures, c.bits.ensures, c.order.ensures)
