-- `book_writer::lent::refusal` meets its contract: the rings, and then the room. Assumes nothing.
use Rattle.refusals.proofs.RingRow.{rings_taken}
use Rattle.book_writer.proofs.lent.refusal.Goals as goal

pub size_of-requires : goal.size_of-requires
size_of-requires c =
    let a = c.args in
    let t = rings_taken a.xs.now a.counts.now a.parts.now (rw (← c.in_ok-lent.ensures)) in
    (t.1, t.2)
