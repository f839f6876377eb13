-- `book_writer::calls::write_book` meets its contract: the book, or the refusal. Assumes nothing.
use lib.ListN.{length}
use Rattle.book_layout.proofs.Lent.{takes}
use Rattle.book_writer.proofs.calls.write_book.Goals as goal

pub put_book-requires : goal.put_book-requires
put_book-requires c =
    let a = c.args in
    let t = takes a.coordinates.now a.counts.now a.parts.now (length a.room.now) (rw (← c.in_ok-refusal.ensures)) in
    record { held = t.0; counts_in_bounds = t.1 }
