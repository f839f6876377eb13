-- `byrlygent::sliding::byr_find_contacts` meets its contract: the call's answer, handed over. Assumes nothing.
use Rattle.handed.proofs.Told.{number_told, place_told}
use Rattle.byrlygent.proofs.sliding.byr_find_contacts.Goals as goal

pub returns : goal.returns
returns c =
    let e = c.find_contacts.ensures in
    let h = c.hand_count.ensures in
    record { value = number_told e.0 h.0 c.hand_refusal.ensures.value; count_after = rw (← e.0) h.1; place_after = place_told e.0 h.0 _ c.hand_refusal.ensures.place_after; which_after = e.1; points_after = e.2 }
