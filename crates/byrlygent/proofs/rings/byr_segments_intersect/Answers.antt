-- `byrlygent::rings::byr_segments_intersect` meets its contract: the call's answer, handed over. Assumes nothing.
use Rattle.handed.proofs.Told.{number_told}
use Rattle.byrlygent.proofs.rings.byr_segments_intersect.Goals as goal

pub returns : goal.returns
returns c =
    let e = c.segments_intersect.ensures in
    let h = c.hand_truth.ensures in
    record { value = number_told e h.0 c.refusal_number.ensures; meet_after = rw (← e) h.1 }
