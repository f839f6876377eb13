-- `byrlygent::sliding::byr_point_on_segment` meets its contract: the call's answer, handed over. Assumes nothing.
use Rattle.handed.proofs.Told.{number_told}
use Rattle.byrlygent.proofs.sliding.byr_point_on_segment.Goals as goal

pub returns : goal.returns
returns c =
    let e = c.point_on_segment.ensures in
    let h = c.hand_truth.ensures in
    record { value = number_told e h.0 c.refusal_number.ensures; on_after = rw (← e) h.1 }
