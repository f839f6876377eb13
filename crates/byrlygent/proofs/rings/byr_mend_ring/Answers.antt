-- `byrlygent::rings::byr_mend_ring` meets its contract: the call's answer, handed over. Assumes nothing.
use Rattle.handed.proofs.Told.{number_told, place_told}
use Rattle.byrlygent.proofs.rings.byr_mend_ring.Goals as goal

pub returns : goal.returns
returns c =
    let e = c.mend_ring.ensures in
    let h = c.hand_mended.ensures in
    record { value = number_told e.0 h.0 c.hand_refusal.ensures.value; vertices_after = rw (← e.0) h.1; count_after = rw (← e.0) h.2; place_after = place_told e.0 h.0 _ c.hand_refusal.ensures.place_after; room_after = e.1; dropped_after = e.2; points_after = e.3 }
