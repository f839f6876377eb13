-- `byrlygent::wkb::byr_read_wkb` meets its contract: the call's answer, handed over. Assumes nothing.
use Rattle.handed.proofs.Told.{number_told, place_told}
use Rattle.byrlygent.proofs.wkb.byr_read_wkb.Goals as goal

pub returns : goal.returns
returns c =
    let h = c.hand_count.ensures in
    record { value = number_told c.read_wkb.ensures.result_value h.0 c.hand_refusal.ensures.value; vertices_after = rw (← c.read_wkb.ensures.result_value) h.1; place_after = place_told c.read_wkb.ensures.result_value h.0 _ c.hand_refusal.ensures.place_after; room_after = c.read_wkb.ensures.room_after }
