-- `byrlygent::sliding::byr_recover_contact` meets its contract: the call's answer, handed over. Assumes nothing.
use Rattle.handed.proofs.Told.{number_told, place_told}
use Rattle.byrlygent.proofs.sliding.byr_recover_contact.Goals as goal

pub returns : goal.returns
returns c =
    let e = c.recover_contact-recovered.ensures in
    let h = c.hand_position.ensures in
    record { value = number_told e h.0 c.hand_refusal.ensures.value; found_after = rw (← e) h.1; tox_after = rw (← e) h.2; toy_after = rw (← e) h.3; place_after = place_told e h.0 _ c.hand_refusal.ensures.place_after }
