-- `byrlygent::rings::byr_signed_area_robust` meets its contract: the call's answer, handed over. Assumes nothing.
use Rattle.handed.proofs.Told.{number_told, place_told}
use Rattle.byrlygent.proofs.rings.byr_signed_area_robust.Goals as goal

pub returns : goal.returns
returns c =
    let e = c.signed_area_robust.ensures in
    let h = c.hand_number.ensures in
    record { value = number_told e h.0 c.hand_refusal.ensures.value; area_after = rw (← e) h.1; place_after = place_told e h.0 _ c.hand_refusal.ensures.place_after }
