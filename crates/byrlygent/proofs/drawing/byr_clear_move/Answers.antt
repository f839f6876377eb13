-- `byrlygent::drawing::byr_clear_move` meets its contract: the call's answer, handed over. Assumes nothing.
use Rattle.handed.proofs.Told.{number_told, place_told}
use Rattle.byrlygent.proofs.drawing.byr_clear_move.Goals as goal

pub returns : goal.returns
returns c =
    let h = c.hand_judged.ensures in
    record {
      fact = (
        number_told c.clear_move.ensures.result_value h.0 c.hand_refusal.ensures.value,
        rw (← c.clear_move.ensures.result_value) h.1,
        rw (← c.clear_move.ensures.result_value) h.2,
        rw (← c.clear_move.ensures.result_value) h.3,
        rw (← c.clear_move.ensures.result_value) h.4,
        place_told c.clear_move.ensures.result_value h.0 _ c.hand_refusal.ensures.place_after,
      );
      reason_after = c.clear_move.ensures.reason_after;
    }
