-- `byrlygent::drawing::byr_check_reason` meets its contract: the call's answer, handed over. Assumes nothing.
use Rattle.handed.proofs.Told.{number_told, place_told}
use Rattle.byrlygent.proofs.drawing.byr_check_reason.Goals as goal

pub returns : goal.returns
returns c =
    let e = c.check_reason.ensures in
    let h = c.hand_checked.ensures in
    (number_told e h.0 c.hand_refusal.ensures.value, rw (← e) h.1, rw (← e) h.2, rw (← e) h.3, place_told e h.0 _ c.hand_refusal.ensures.place_after)
