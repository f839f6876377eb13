-- `byrlygent::rings::byr_open_ring` meets its contract: the call's answer, handed over. Assumes nothing.
use Rattle.handed.proofs.Told.{number_told, place_told}
use Rattle.byrlygent.proofs.rings.byr_open_ring.Goals as goal

pub returns : goal.returns
returns c =
    let h = c.hand_count.ensures in
    record { value = number_told c.open_ring.ensures.result_value h.0 c.hand_refusal.ensures.value; vertices_after = rw (← c.open_ring.ensures.result_value) h.1; place_after = place_told c.open_ring.ensures.result_value h.0 _ c.hand_refusal.ensures.place_after; room_after = c.open_ring.ensures.room_after }
