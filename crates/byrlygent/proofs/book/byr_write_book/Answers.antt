-- `byrlygent::book::byr_write_book` meets its contract: the call's answer, handed over. Assumes nothing.
use Rattle.handed.proofs.Told.{number_told, place_told}
use Rattle.byrlygent.proofs.book.byr_write_book.Goals as goal

pub returns : goal.returns
returns c =
    let h = c.hand_count.ensures in
    record { value = number_told c.write_book.ensures.result_value h.0 c.hand_refusal.ensures.value; bytes_after = rw (← c.write_book.ensures.result_value) h.1; place_after = place_told c.write_book.ensures.result_value h.0 _ c.hand_refusal.ensures.place_after; room_after = c.write_book.ensures.room_after }
