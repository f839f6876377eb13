-- `byrlygent::rings::byr_orientation` meets its contract: the call's answer, handed over. Assumes nothing.
use Rattle.handed.proofs.Told.{number_told}
use Rattle.byrlygent.proofs.rings.byr_orientation.Goals as goal

pub returns : goal.returns
returns c =
    let e = c.orientation.ensures in
    let h = c.hand_turn.ensures in
    record { value = number_told e h.0 c.refusal_number.ensures; turn_after = rw (← e) h.1 }
