-- `book_reader::tail::entry_offset` meets its contract. Assumes nothing.
use Rattle.book_layout.specs.Layout.{entry_offset}
use Rattle.book_reader.proofs.tail.entry_offset.Goals as goal

pub returns : goal.returns
unfolding entry_offset
returns c = c.number4.ensures
