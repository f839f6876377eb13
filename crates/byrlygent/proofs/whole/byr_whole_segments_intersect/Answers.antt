-- `byrlygent::whole::byr_whole_segments_intersect` meets its contract: the call's answer, handed over. Assumes nothing.
use mathlib.Core.Path.{◌∙◌}
use Rattle.handed.proofs.Told.{number_told}
use Rattle.whole_engine.specs.Calls.{whole_intersect_call}
use Rattle.whole_engine.proofs.Read.{eight_read}
use Rattle.byrlygent.proofs.whole.byr_whole_segments_intersect.Goals as goal

pub returns : goal.returns
returns c =
    let e =
    c.segments_intersect.ensures
    ∙ eight_read whole_intersect_call _ _ _ _ _ _ _ _ c.ranges.x1 c.ranges.y1 c.ranges.x2 c.ranges.y2 c.ranges.x3 c.ranges.y3 c.ranges.x4 c.ranges.y4 in
    let h = c.hand_truth.ensures in
    record { value = number_told e h.0 c.refusal_number.ensures; meet_after = rw (← e) h.1 }
