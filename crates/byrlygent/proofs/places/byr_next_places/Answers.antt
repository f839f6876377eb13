-- `byrlygent::places::byr_next_places` meets its contract: the call's answer, handed over. Assumes nothing.
use Rattle.handed.proofs.Told.{number_told}
use Rattle.byrlygent.proofs.places.byr_next_places.Goals as goal

pub returns : goal.returns
returns c =
    let h = c.hand_inspected.ensures in
    record { value = number_told c.next_places.ensures.result_value h.0 c.refusal_number.ensures; start_after = rw (← c.next_places.ensures.result_value) h.1; count_after = rw (← c.next_places.ensures.result_value) h.2; room_after = c.next_places.ensures.room_after }
