-- `byrlygent::clear::byr_whole_check_reason` meets its contract: the call's answer, handed over. Assumes nothing.
use mathlib.Core.Path.{◌∙◌}
use lib.IntN.{ℤ}
use Rattle.clear_calls.specs.Calls.{check_reason_call}
use Rattle.clear_calls.proofs.Passed.{as_lent}
use Rattle.handed.proofs.Told.{number_told, place_told}
use Rattle.byrlygent.proofs.clear.byr_whole_check_reason.Goals as goal

pub returns : goal.returns
returns c =
    let st = c.args.stationary.now in
    let orb = c.args.orbiting.now in
    let ls = c.args.reason.now in
    let e = c.check_reason.ensures ∙ as_lent (λ (x y : ℤ). check_reason_call st orb x y ls) c.ranges.dx c.ranges.dy in
    let h = c.hand_judged.ensures in
    record { value = number_told e h.0 c.hand_refusal.ensures.value; ground_after = rw (← e) h.1; edge_after = rw (← e) h.2; place_after = place_told e h.0 _ c.hand_refusal.ensures.place_after }
