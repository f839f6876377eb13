-- `byrlygent::book::byr_read_book` meets its contract: the call's answer, handed over. Assumes nothing.
use Rattle.handed.proofs.Told.{number_told, place_told}
use Rattle.byrlygent.proofs.book.byr_read_book.Goals as goal

pub returns : goal.returns
returns c =
    let e = c.read_book.ensures in
    let h = c.hand_count.ensures in
    record { value = number_told e.0 h.0 c.hand_refusal.ensures.value; rings_after = rw (← e.0) h.1; place_after = place_told e.0 h.0 _ c.hand_refusal.ensures.place_after; coordinates_after = e.1; counts_after = e.2; parts_after = e.3 }
