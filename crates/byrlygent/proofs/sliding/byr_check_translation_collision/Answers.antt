-- `byrlygent::sliding::byr_check_translation_collision` meets its contract: the call's answer, handed over. Assumes nothing.
use Rattle.handed.proofs.Told.{number_told, place_told}
use Rattle.byrlygent.proofs.sliding.byr_check_translation_collision.Goals as goal

pub returns : goal.returns
returns c =
    let e = c.check_translation_collision-answer.ensures in
    let h = c.hand_checked.ensures in
    record { value = number_told e h.0 c.hand_refusal.ensures.value; found_after = rw (← e) h.1; distance_after = rw (← e) h.2; kind_after = rw (← e) h.3; si_after = rw (← e) h.4; oi_after = rw (← e) h.5; place_after = place_told e h.0 _ c.hand_refusal.ensures.place_after }
