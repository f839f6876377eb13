-- `byrlygent::path::byr_check_path` meets its contract: the call's answer, handed over. Assumes nothing.
use Rattle.handed.proofs.Told.{number_told, place_told}
use Rattle.byrlygent.proofs.path.byr_check_path.Goals as goal

pub returns : goal.returns
returns c =
    let e = c.check_path.ensures in
    let h = c.hand_verdict.ensures in
    record { value = number_told e h.0 c.hand_refusal.ensures.value; fault_after = rw (← e) h.1; index_after = rw (← e) h.2; place_after = place_told e h.0 _ c.hand_refusal.ensures.place_after }
