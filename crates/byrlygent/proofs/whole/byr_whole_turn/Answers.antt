-- `byrlygent::whole::byr_whole_turn` meets its contract: the call's answer, handed over. Assumes nothing.
use mathlib.Core.Path.{◌∙◌}
use Rattle.handed.proofs.Told.{number_told}
use Rattle.whole_engine.specs.Calls.{whole_turn_call}
use Rattle.whole_engine.proofs.Read.{six_read}
use Rattle.byrlygent.proofs.whole.byr_whole_turn.Goals as goal

pub returns : goal.returns
returns c =
    let e =
    c.turn.ensures
    ∙ six_read whole_turn_call _ _ _ _ _ _ c.ranges.ax c.ranges.ay c.ranges.bx c.ranges.by c.ranges.cx c.ranges.cy in
    let h = c.hand_turn.ensures in
    record { value = number_told e h.0 c.refusal_number.ensures; turn_after = rw (← e) h.1 }
