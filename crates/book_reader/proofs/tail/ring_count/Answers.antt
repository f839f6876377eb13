-- `book_reader::tail::ring_count` meets its contract. Assumes nothing.
use Rattle.book_layout.specs.Layout.{ring_count}
use Rattle.book_reader.proofs.tail.ring_count.Goals as goal

pub returns : goal.returns
unfolding ring_count
returns c = c.number4.ensures
