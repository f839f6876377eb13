-- `book_reader::calls::read_book` meets its contract: the rings, or the refusal. Assumes nothing.
use lib.ListN.{length}
use Rattle.book_reader.proofs.Files.{reads}
use Rattle.book_reader.proofs.calls.read_book.Goals as goal

pub load_book-requires : goal.load_book-requires
load_book-requires c =
    let a = c.args in
    let h = reads a.book.now (length a.coordinates.now) (length a.counts.now) (length a.parts.now) (rw (← c.in_ok-refusal.ensures)) in
    record { book_check = h.0; f_in_bounds = (h.1, h.2, h.3) }
