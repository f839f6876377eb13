-- `byrlygent::sliding::byr_simplify_polygon` meets its contract: the call's answer, handed over. Assumes nothing.
use Rattle.handed.proofs.Told.{number_told, place_told}
use Rattle.byrlygent.proofs.sliding.byr_simplify_polygon.Goals as goal

pub returns : goal.returns
returns c =
    let h = c.hand_count.ensures in
    record { value = number_told c.simplify_polygon.ensures.result_value h.0 c.hand_refusal.ensures.value; points_after = rw (← c.simplify_polygon.ensures.result_value) h.1; place_after = place_told c.simplify_polygon.ensures.result_value h.0 _ c.hand_refusal.ensures.place_after; room_after = c.simplify_polygon.ensures.room_after }
