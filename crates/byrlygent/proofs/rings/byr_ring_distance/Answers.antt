-- `byrlygent::rings::byr_ring_distance` meets its contract: the call's answer, handed over. Assumes nothing.
use Rattle.handed.proofs.Told.{number_told, place_told}
use Rattle.byrlygent.proofs.rings.byr_ring_distance.Goals as goal

pub returns : goal.returns
returns c =
    let e = c.ring_distance.ensures in
    let h = c.hand_number.ensures in
    record { value = number_told e h.0 c.hand_refusal.ensures.value; distance_after = rw (← e) h.1; place_after = place_told e h.0 _ c.hand_refusal.ensures.place_after }
