-- `byrlygent::sliding::byr_select_translation_vector` meets its contract: the call's answer, handed over. Assumes nothing.
use Rattle.handed.proofs.Told.{number_told, place_told}
use Rattle.byrlygent.proofs.sliding.byr_select_translation_vector.Goals as goal

pub returns : goal.returns
returns c =
    let b = c.previous-before.ensures in
    let e = rw b at c.select_translation_vector.ensures in
    let h = c.hand_selected.ensures in
    record { value = number_told e h.0 c.hand_refusal.ensures.value; found_after = rw (← e) h.1; index_after = rw (← e) h.2; place_after = place_told e h.0 _ c.hand_refusal.ensures.place_after }
