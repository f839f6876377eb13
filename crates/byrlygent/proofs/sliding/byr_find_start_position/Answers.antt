-- `byrlygent::sliding::byr_find_start_position` meets its contract: the call's answer, handed over. Assumes nothing.
use Rattle.handed.proofs.Told.{number_told, place_told}
use Rattle.byrlygent.proofs.sliding.byr_find_start_position.Goals as goal

pub returns : goal.returns
returns c =
    let e = c.find_start_position.ensures in
    let h = c.hand_start.ensures in
    record { value = number_told e h.0 c.hand_refusal.ensures.value; x_after = rw (← e) h.1; y_after = rw (← e) h.2; place_after = place_told e h.0 _ c.hand_refusal.ensures.place_after }
