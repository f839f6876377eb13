-- `byrlygent::sliding::byr_project_point_to_segment` meets its contract: the call's answer, handed over. Assumes nothing.
use Rattle.handed.proofs.Told.{number_told}
use Rattle.byrlygent.proofs.sliding.byr_project_point_to_segment.Goals as goal

pub returns : goal.returns
returns c =
    let e = c.project_point_to_segment.ensures in
    let h = c.hand_projected.ensures in
    record { value = number_told e h.0 c.refusal_number.ensures; parameter_after = rw (← e) h.1; foot_after = rw (← e) h.2 }
