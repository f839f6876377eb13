-- `byrlygent::clear::byr_whole_clear_move` meets its contract: the call's answer, handed over. Assumes nothing.
use mathlib.Core.Path.{◌∙◌}
use lib.ListN.{length}
use lib.IntN.{ℤ}
use Rattle.clear_calls.specs.Calls.{clear_move_call, clear_move_room}
use Rattle.clear_calls.proofs.Passed.{as_lent}
use Rattle.handed.proofs.Told.{number_told, place_told}
use Rattle.byrlygent.proofs.clear.byr_whole_clear_move.Goals as goal

pub returns : goal.returns
returns c =
    let st = c.args.stationary.now in
    let orb = c.args.orbiting.now in
    let room = c.args.reason.now in
    let e = c.clear_move.ensures.0 ∙ as_lent (λ (x y : ℤ). clear_move_call st orb x y (length room)) c.ranges.dx c.ranges.dy in
    let w = c.clear_move.ensures.1 ∙ as_lent (λ (x y : ℤ). clear_move_room st orb x y room) c.ranges.dx c.ranges.dy in
    let h = c.hand_judged.ensures in
    record { value = number_told e h.0 c.hand_refusal.ensures.value; ground_after = rw (← e) h.1; edge_after = rw (← e) h.2; place_after = place_told e h.0 _ c.hand_refusal.ensures.place_after; reason_after = w }
