-- `byrlygent::sliding::byr_explain_collision` meets its contract: the call's answer, handed over. Assumes nothing.
use Rattle.handed.proofs.Told.{number_told, place_told}
use Rattle.byrlygent.proofs.sliding.byr_explain_collision.Goals as goal

pub returns : goal.returns
returns c =
    let e = c.explain_collision-answer.ensures in
    let h = c.hand_explained.ensures in
    record { value = number_told e h.0 c.hand_refusal.ensures.value; ground_after = rw (← e) h.1; distance_after = rw (← e) h.2; kind_after = rw (← e) h.3; si_after = rw (← e) h.4; oi_after = rw (← e) h.5; others_after = rw (← e) h.6; near_after = rw (← e) h.7; between_after = rw (← e) h.8; far_after = rw (← e) h.9; place_after = place_told e h.0 _ c.hand_refusal.ensures.place_after }
