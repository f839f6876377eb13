-- `byrlygent::rings::byr_point_segment_distance` meets its contract: the call's answer, handed over. Assumes nothing.
use Rattle.handed.proofs.Told.{number_told}
use Rattle.byrlygent.proofs.rings.byr_point_segment_distance.Goals as goal

pub returns : goal.returns
returns c =
    let e = c.point_segment_distance.ensures in
    let h = c.hand_number.ensures in
    record { value = number_told e h.0 c.refusal_number.ensures; distance_after = rw (← e) h.1 }
