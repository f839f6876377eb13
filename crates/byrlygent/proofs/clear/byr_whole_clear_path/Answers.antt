-- `byrlygent::clear::byr_whole_clear_path` meets its contract: the call's answer, handed over. Assumes nothing.
use Rattle.handed.proofs.Told.{number_told, place_told}
use Rattle.byrlygent.proofs.clear.byr_whole_clear_path.Goals as goal

pub returns : goal.returns
returns c =
    let e = c.clear_path.ensures in
    let h = c.hand_path_judged.ensures in
    record { value = number_told e h.0 c.hand_refusal.ensures.value; ground_after = rw (← e) h.1; leg_after = rw (← e) h.2; edge_after = rw (← e) h.3; place_after = place_told e h.0 _ c.hand_refusal.ensures.place_after }
