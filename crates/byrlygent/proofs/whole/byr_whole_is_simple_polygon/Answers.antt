-- `byrlygent::whole::byr_whole_is_simple_polygon` meets its contract: the call's answer, handed over. Assumes nothing.
use Rattle.handed.proofs.Told.{number_told, place_told}
use Rattle.byrlygent.proofs.whole.byr_whole_is_simple_polygon.Goals as goal

pub returns : goal.returns
returns c =
    let e = c.is_simple_polygon.ensures in
    let h = c.hand_truth.ensures in
    record { value = number_told e h.0 c.hand_refusal.ensures.value; simple_after = rw (← e) h.1; place_after = place_told e h.0 _ c.hand_refusal.ensures.place_after }
