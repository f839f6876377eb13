-- `byrlygent::whole::byr_whole_on_segment` meets its contract: the call's answer, handed over. Assumes nothing.
use mathlib.Core.Path.{◌∙◌}
use Rattle.handed.proofs.Told.{number_told}
use Rattle.whole_engine.specs.Calls.{whole_on_segment_call}
use Rattle.whole_engine.proofs.Read.{six_read}
use Rattle.byrlygent.proofs.whole.byr_whole_on_segment.Goals as goal

pub returns : goal.returns
returns c =
    let e =
    c.on_segment.ensures
    ∙ six_read whole_on_segment_call _ _ _ _ _ _ c.ranges.ax c.ranges.ay c.ranges.bx c.ranges.by c.ranges.px c.ranges.py in
    let h = c.hand_truth.ensures in
    record { value = number_told e h.0 c.refusal_number.ensures; on_after = rw (← e) h.1 }
